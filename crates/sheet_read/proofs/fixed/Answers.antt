-- `sheet_read::fixed` meets its contract. Invariant: the bytes due from i on decide, at p, what is read. Assumes nothing.
use mathlib.Core.Path.{sym, ◌∙◌}
use native.Mathlib.Omega.{arith}
use Rattle.sheet_read.proofs.Bytes.{stops, reads as ends, fixed_short, fixed_other, fixed_go, fixed_all}
use Rattle.sheet_read.proofs.fixed.Goals as goal

pub returns-then-text-p : goal.returns-then-text-p
returns-then-text-p c = let v = c.loop-due.invariant in stops v.0 (sym v.1 ∙ fixed_short _ _ _ _ _ c.loop-due-test.true c.if-text-p.true)

pub returns-then-text-p-2 : goal.returns-then-text-p-2
returns-then-text-p-2 c = let v = c.loop-due.invariant in stops v.0 (sym v.1 ∙ fixed_other _ _ _ _ _ c.loop-due-test.true c.if-text-p.false c.if-text-p-2.true)

pub loop-due-preserved : goal.loop-due-preserved
loop-due-preserved c = let v = c.loop-due.invariant in (omega arith, sym (fixed_go _ _ _ _ _ c.loop-due-test.true c.if-text-p.false c.if-text-p-2.false) ∙ v.1)

pub returns : goal.returns
returns c = let v = c.loop-due.invariant in ends (omega arith) v.0 (sym v.1 ∙ fixed_all c.args.text.now _ _ _ c.loop-due.p c.loop-due-test.false)
