-- The theorems of the crate that rest on others of it; their words are in specs/. Start with specs/Statements.
pub mod Sound
pub mod Sources
pub mod Places
pub mod Loading
pub mod For
pub mod End
pub mod Following
pub mod Endless
pub mod Order
pub mod Endings
pub mod Waiting
pub mod Silent
pub mod Statements
pub mod NotIdle
