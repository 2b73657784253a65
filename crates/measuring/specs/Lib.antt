-- What measuring a table keeps and answers.
pub mod Ready
