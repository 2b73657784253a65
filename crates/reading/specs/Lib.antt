-- The plain reading of a loop table in small steps, and the register's tables read.
pub mod Reading
pub mod Outcome
pub mod Steps
pub mod Results
pub mod Within
pub mod Standing
pub mod Cases
