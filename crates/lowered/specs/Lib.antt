-- Lowering: what a table's graph is, and what is true of it.
pub mod Gathered
pub mod Lists
pub mod Roles
pub mod Sources
pub mod Lower
pub mod Room
pub mod Cases
