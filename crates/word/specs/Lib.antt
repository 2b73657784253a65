-- What the crate promises: the definitions (`Words`), the laws that crates above cite (`Laws`), those over the values, for people (`Values`), and computed cases (`Examples`).
pub mod Words
pub mod Laws
pub mod Values
pub mod Examples
