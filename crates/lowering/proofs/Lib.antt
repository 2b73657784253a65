-- The laws that the proofs of the functions share: the whole graph (`Whole`), the entries' answers (`Answers`).
pub mod Whole
pub mod Answers
