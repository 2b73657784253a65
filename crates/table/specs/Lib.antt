-- Loop tables: rows, the scan, the refusals 1 to 9, and the cases that compute.
pub mod Letters
pub mod Rows
pub mod Kinds
pub mod Said
pub mod Counted
pub mod Scan
pub mod Bodies
pub mod Check
pub mod Clauses
pub mod Telling
pub mod Broken
pub mod Kept
pub mod Right
pub mod Nexts
pub mod Cases
