-- What the code of lowering keeps while it goes down the rows.
pub mod Kept
pub mod Facts
pub mod Sized
pub mod Way
pub mod Homes
pub mod Served
pub mod Zeros
pub mod Checked
pub mod Starts
