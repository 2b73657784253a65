use Rattle.naming.proofs.Writing.{Written}
use Rattle.naming.specs.Parts.{output_names_by}
use Rattle.naming.proofs.name_wires.Given as goal

abbrev pub invariant-loop-i : goal.invariant-loop-i
invariant-loop-i l = Written (output_names_by l.nodes) l.at l.i l.p l.initial.wires l.wires
