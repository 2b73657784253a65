-- The entry read_plain: what it answers, and what that has to do with the plain reading.
pub mod Plain
pub mod Answers
pub mod Against
pub mod Cases
