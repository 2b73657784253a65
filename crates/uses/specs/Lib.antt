pub mod Machine
pub mod Wires
pub mod Flat
pub mod Layout
