-- The laws that the proofs of the functions share: uses tallied and legs given (`Uses`), words written in order (`Words`).
pub mod Tallies
pub mod Words
