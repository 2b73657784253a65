pub mod Drive
pub mod Runs
pub mod Register
pub mod Slips
