-- The structure of a table that passes refusals 1 to 9.
pub mod Decoded
pub mod Place
pub mod Loops
pub mod Spans
pub mod Serving
pub mod Operands
pub mod Order
pub mod Depth
pub mod Paper
pub mod Behind
pub mod Structure
pub mod Cases
