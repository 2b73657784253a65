-- Why the walkers follow the reading.
pub mod Walking
