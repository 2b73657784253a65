-- `laying::resolve_values` meets its contract. Invariant: the values below v are entered, and the operands that name them have their wires. Assumes nothing.
use Rattle.std.proofs.Common.{arith}
use Rattle.laying.proofs.Uses.{no_values, one_value, all_values}
use Rattle.laying.proofs.resolve_values.Goals as goal

pub loop-v-init : goal.loop-v-init
loop-v-init c = let P = c.requires in no_values _ _ c.args.notes.now.noted.passing _ _ _ _ _ _ P.1 (omega arith) (omega arith)

pub resolve_uses-requires : goal.resolve_uses-requires
resolve_uses-requires c = let P = c.requires in
    let G = c.loop-v.invariant in
    (P.0, c.loop-v-test.true, G.next)

pub loop-v-preserved : goal.loop-v-preserved
loop-v-preserved c = one_value _ _ c.args.notes.now.noted.passing _ _ _ _ _ _ _ _ _ _ _ c.loop-v.invariant c.resolve_uses.ensures

pub returns : goal.returns
returns c = all_values _ _ c.args.notes.now.noted.passing _ _ _ _ _ _ _ (omega arith) (omega arith) c.loop-v.invariant
