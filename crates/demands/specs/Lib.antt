-- The demands over the entries' contracts: a table lowered, loaded and run answers as its plain reading does.
pub mod Rehearsal
pub mod Calls
pub mod Tables
pub mod Plain
