-- `counting::unnamed` meets its contract. A value leads to no operand exactly if no row names it.
-- Assumes nothing.
use Rattle.std.proofs.Common.{ℕ, ap, ◌∙◌, eqb}
use Rattle.word.specs.Words.{flag}
use Rattle.counting.proofs.Counting.{unnamed_iff}
use Rattle.counting.proofs.unnamed.Goals as goal

pub returns : goal.returns
returns c =
    let N = c.args.notes.now.noted in
    let o = c.one_if.ensures in
    (o.0 ∙ ap (λ (x : ℕ). flag (eqb x 0)) c.noted_at.ensures ∙ unnamed_iff _ _ N.passing _ _ N.uses_noted c.args.v c.requires, o.1)
