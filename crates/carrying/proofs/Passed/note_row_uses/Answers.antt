-- `carrying::Passed::note_row_uses` meets its contract. Invariant: the uses before the place of operand j are linked. Assumes nothing.
use Rattle.std.proofs.Common.{◌∙◌, arith}
use Rattle.carrying.proofs.Linking.{to_next, use_here, head_in, one_use, row_linked}
use Rattle.carrying.proofs.Passed.note_row_uses.Goals as goal

pub bounds-heads-v : goal.bounds-heads-v
bounds-heads-v c =
    let P = c.args.self.now.passing in
    omega (arith, head_in _ _ P _ _ _ _ _ (use_here _ _ P _ _ _ _ c.requires.0 (c.number.ensures ∙ c.kind.ensures) c.operand_count-m.ensures.0 c.loop-j-test.true) c.operand_at-v.ensures c.loop-j.invariant)

pub bounds-heads-v-in-loop-j : goal.bounds-heads-v-in-loop-j
bounds-heads-v-in-loop-j c =
    let P = c.args.self.now.passing in
    omega (arith, head_in _ _ P _ _ _ _ _ (use_here _ _ P _ _ _ _ c.requires.0 (c.number.ensures ∙ c.kind.ensures) c.operand_count-m.ensures.0 c.loop-j-test.true) c.operand_at-v.ensures c.loop-j.invariant)

pub loop-j-preserved : goal.loop-j-preserved
loop-j-preserved c =
    let P = c.args.self.now.passing in
    to_next _ _ P _ _ _ _ (one_use _ _ P _ _ _ _ _ (use_here _ _ P _ _ _ _ c.requires.0 (c.number.ensures ∙ c.kind.ensures) c.operand_count-m.ensures.0 c.loop-j-test.true) c.operand_at-v.ensures c.loop-j.invariant)

pub returns : goal.returns
returns c = row_linked _ _ c.args.self.now.passing _ _ _ _ _ _ (c.number.ensures ∙ c.kind.ensures) c.operand_count-m.ensures.0 (omega arith) (omega arith) c.loop-j.invariant
