-- The laws of the reading within an allowance.
pub mod Within
pub mod Bounded
