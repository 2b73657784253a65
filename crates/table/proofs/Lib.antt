-- The laws that the proofs of the functions cite.
pub mod Different
pub mod Opened
pub mod Words
pub mod Visible
pub mod Noting
pub mod Refusing
