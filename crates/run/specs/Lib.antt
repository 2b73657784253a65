pub mod Entry
pub mod Numbers
