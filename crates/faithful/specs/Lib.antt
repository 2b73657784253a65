-- The lowered table means what it says. Start with Statements. What rests on other theorems of the crate stands in proofs/.
-- A table by its structure, and its configuration where the reading stands.
pub mod Table
pub mod Members
pub mod Good
pub mod Gamma
-- One step of the reading: rows, then loops.
pub mod Rows
pub mod Loop
pub mod Stages
pub mod Turn
pub mod Ports
pub mod Course
pub mod For
pub mod End
-- Tables of words have that structure, and the reading is followed.
pub mod Tables
pub mod Carried
pub mod Conditions
-- The lowered words lay out the table.
pub mod Legs
pub mod Begin
pub mod Passed
pub mod Finish
-- Orders on the lowered words.
pub mod EndState
pub mod Endings
pub mod Faults
pub mod Statements
pub mod NotIdle
pub mod NotSo
