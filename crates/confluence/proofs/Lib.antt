-- The theorems of the crate that rest on others of it; their words are in specs/.
pub mod Histories
pub mod Ledger
pub mod Stage
pub mod Runs
pub mod Resuming
pub mod Statements
pub mod NotIdle
