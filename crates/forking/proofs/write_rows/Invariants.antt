use mathlib.Core.Path.{◌≡◌}
use lib.Seq.{sets}
use lib.ListN.{length}
use Rattle.graph.specs.Below.{joined}
use Rattle.forking.specs.Written.{row_inputs, row_words}
use Rattle.forking.specs.Tallied.{tallied}
use Rattle.forking.proofs.write_rows.Given as goal

abbrev pub invariant-loop-i : goal.invariant-loop-i
invariant-loop-i l = (length l.graph ≡ length l.initial.graph) × (l.seen ≡ tallied l.initial.seen (joined (row_inputs l.rows) l.i)) × (l.graph ≡ sets l.initial.graph l.at (joined (row_words l.uses.free l.uses.count l.rows l.initial.seen) l.i))
