-- Which wires of a table have no use, the counts that follow, and what count_table answers.
pub mod Used
pub mod Idle
pub mod Answers
