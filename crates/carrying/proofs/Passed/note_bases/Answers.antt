-- `carrying::Passed::note_bases` meets its contract. Invariant: the first nodes and outputs of the rows before r are noted, and the sums are those of row r. Assumes nothing.
use Rattle.std.proofs.Common.{refl, arith}
use Rattle.carrying.specs.Zeros.{low_zeros}
use Rattle.carrying.proofs.Counting.{no_bases, one_base, all_bases}
use Rattle.carrying.proofs.Passed.note_bases.Goals as goal

pub loop-r-init : goal.loop-r-init
loop-r-init c = no_bases _ _ c.args.self.now.passing _ _ _ c.requires.0 refl refl (low_zeros 512)

pub loop-r-preserved : goal.loop-r-preserved
loop-r-preserved c = one_base _ _ c.args.self.now.passing _ _ _ _ _ _ _ c.loop-r-test.true c.loop-r.invariant c.nodes_of-node.ensures c.wires_of-wire.ensures

pub returns : goal.returns
returns c = all_bases _ _ c.args.self.now.passing _ _ _ _ _ (omega arith) (omega arith) c.loop-r.invariant
