-- The laws that the proofs of the functions cite.
pub mod Putting
pub mod Entered
pub mod Uses
pub mod Nodes
pub mod Results
pub mod Whole
