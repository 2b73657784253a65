pub mod Faults
pub mod Lines
pub mod Long
pub mod Answered
