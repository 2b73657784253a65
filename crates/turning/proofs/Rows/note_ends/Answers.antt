use Rattle.turning.proofs.Naming.{row_in}
use Rattle.turning.proofs.Scanning.{none_noted, one_noted, all_noted, note_inside, end_inside}
use lib.ListN.{length-replicate}
use native.Mathlib.Omega.{arith}
use mathlib.Core.Path.{◌∙◌, sym}
use Prim.Native.Nat.{ℕ}
use Rattle.turning.proofs.Rows.note_ends.Goals as goal

pub loop-r-init : goal.loop-r-init
loop-r-init c = let P = c.args.self.now.passes in none_noted _ P.right _ _ P.rows (length-replicate {A = ℕ} 512 0)

pub body_after-next-requires : goal.body_after-next-requires
body_after-next-requires c = let P = c.args.self.now.passes in (λ e. end_inside _ P.right _ _ _ c.loop-r.invariant (row_in P c.loop-r-test.true) (sym c.kind-kind.ensures ∙ e), c.loop-r.invariant.long)

pub bounds-notes-note_at : goal.bounds-notes-note_at
bounds-notes-note_at c = let P = c.args.self.now.passes in omega (arith, note_inside _ P.right _ _ _ c.loop-r.invariant (row_in P c.loop-r-test.true) _ _ c.kind-kind.ensures c.note_at.ensures, c.loop-r.invariant.long)

pub loop-r-preserved : goal.loop-r-preserved
loop-r-preserved c = let P = c.args.self.now.passes in one_noted _ P.right _ _ _ c.loop-r.invariant (row_in P c.loop-r-test.true) _ _ _ _ c.kind-kind.ensures c.body_after-next.ensures c.note_at.ensures c.note_of.ensures

pub returns : goal.returns
returns c = let P = c.args.self.now.passes in all_noted _ P.right _ _ _ c.loop-r.invariant (omega (arith, c.loop-r-test.false, P.rows))
