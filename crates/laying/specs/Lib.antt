-- What laying down keeps while it goes over the values and the rows.
pub mod Entering
pub mod Using
pub mod Rows
