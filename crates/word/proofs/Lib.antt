-- The signs of words, for the functions' proofs.
pub mod Signs
