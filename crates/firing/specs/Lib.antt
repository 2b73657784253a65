pub mod Acted
pub mod Waiting
