-- The laws that the proofs of the functions share: rows (`Rows`), the table of reads (`Readers`), the table of sorts (`Sorts`).
pub mod Rows
pub mod Readers
pub mod Sorts
