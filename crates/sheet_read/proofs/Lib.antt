pub mod Bytes
pub mod Names
pub mod Storing
pub mod Tables
pub mod Answering
