use Prim.Native.Nat.{◌*◌}
use Rattle.naming.proofs.Writing.{Written}
use Rattle.naming.specs.Parts.{leg_names_by}
use Rattle.naming.proofs.name_legs.Given as goal

abbrev pub invariant-loop-w : goal.invariant-loop-w
invariant-loop-w l = Written (leg_names_by l.initial.wires l.uses.count) (3 * l.sources) l.w l.p l.initial.wires l.wires
