pub mod State
pub mod Net
pub mod Legal
pub mod Load
pub mod Loaded
pub mod Run
pub mod Examples
