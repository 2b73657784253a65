-- Forks by number: uses tallied, forks numbered, the words written one after another.
pub mod Tallied
pub mod Forked
pub mod Written
pub mod Sorted
