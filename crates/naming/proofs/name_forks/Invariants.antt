use Rattle.naming.proofs.Writing.{Written}
use Rattle.naming.specs.Parts.{fork_names_by}
use Rattle.naming.proofs.name_forks.Given as goal

abbrev pub invariant-loop-w : goal.invariant-loop-w
invariant-loop-w l = Written (fork_names_by l.wires l.uses.count) l.at l.w l.p l.initial.nodes l.nodes
