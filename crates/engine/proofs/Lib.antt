-- Why the entry reads as the reading does, and what its answers say of the reading.
pub mod Reading
pub mod Answers
pub mod Against
