-- The laws that the proofs of the functions share: the sums of a table's graph.
pub mod Counting
