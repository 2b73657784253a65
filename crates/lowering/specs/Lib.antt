-- What lowering answers.
pub mod Answers
