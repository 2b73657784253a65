-- `carrying::Passed::note_pairs` meets its contract. Invariant: the NEXTs before row r are paired. Assumes nothing.
use Rattle.std.proofs.Common.{arith}
use Rattle.carrying.proofs.Pairing.{all_paired}
use Rattle.carrying.proofs.Passed.note_pairs.Goals as goal

pub returns : goal.returns
returns c = all_paired _ _ c.args.self.now.passing _ _ (omega arith) (omega arith) c.loop-r.invariant
