-- The rows beside a graph, and what naming answers.
pub mod Names
pub mod Parts
pub mod Carried
pub mod Answers
pub mod Beside
pub mod Cases
pub mod Told
