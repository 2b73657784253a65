pub mod Legality
