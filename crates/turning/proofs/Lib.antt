-- The laws that the proofs of the functions cite.
pub mod Naming
pub mod Copying
pub mod Scanning
pub mod Beginning
pub mod Turns
