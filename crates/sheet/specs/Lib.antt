-- Sheets: a table as a text, its reader, what the two entries answer, and what is true of all sheets.
pub mod Sheet
pub mod Reader
pub mod Answers
pub mod Cases
pub mod Statements
-- why the statements hold: readers that read a language and nothing else, put together as sheets are
pub mod Exact
pub mod Either
pub mod Names
pub mod Decimal
pub mod Digits
pub mod Numbers
pub mod WordLines
pub mod RowLines
pub mod TableLines
pub mod RowByRow
pub mod Passing
pub mod Whole
