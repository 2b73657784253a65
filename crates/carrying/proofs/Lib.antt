-- The laws that the proofs of the functions cite.
pub mod Scanning
pub mod Homes
pub mod Counting
pub mod Linking
pub mod Pairing
