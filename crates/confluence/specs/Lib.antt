-- Any order, one end. Read `Statements` first: what is promised, on the words of every accepted graph. `NotIdle` shows that it speaks of something.
-- The proofs, from below: any machine with a diamond (`Orders`); stores at places (`Places`); ready nodes of a wired net (`Wired`), the words they
-- put (`Histories`), what one firing leaves (`Update`), the ledger of a wire (`Ledger`), several firings at once (`Stage`); runs (`Runs`, `Resuming`);
-- graphs as nets (`Graphs`).
pub mod Orders
pub mod Places
pub mod Wired
pub mod Histories
pub mod Update
pub mod Ledger
pub mod Stage
pub mod Runs
pub mod Resuming
pub mod Graphs
pub mod Statements
pub mod NotIdle
