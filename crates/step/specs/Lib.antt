pub mod Kinds
pub mod Firing
pub mod Machines
pub mod Named
pub mod Shown
pub mod Locality
pub mod Kept
pub mod Facts
