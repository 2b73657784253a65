-- What the crate promises: a graph as words (`Graph`), the refusals 11 to 15 (`Refusal`), what an accepted graph is (`Accepted`, and
-- back: `Enough`) and what its wires are (`Wiring`); below them walks over the numbers below n (`Below`), the table of reads (`Counted`) and how
-- the code says the table of kinds (`Said`); the register's sum graph (`SumGraph`) and computed cases (`Examples`).
pub mod Below
pub mod Graph
pub mod Said
pub mod Refusal
pub mod Accepted
pub mod Enough
pub mod Wiring
pub mod Counted
pub mod SumGraph
pub mod Examples
