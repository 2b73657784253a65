-- `naming::name_start` meets its contract. One name where the row is a start, else none.
-- Assumes nothing.
use Rattle.std.proofs.Common.{[], ◌∷◌, refl, leb, le-leb}
use Rattle.std.proofs.lemmas.Bool.{lt-leb}
use Rattle.table.specs.Kinds.{kind_number}
use Rattle.carrying.specs.Starts.{of_start, of_no_start}
use Rattle.naming.proofs.Writing.{room_when, when, unless}
use Rattle.naming.proofs.name_start.Goals as goal

pub three-requires : goal.three-requires
three-requires c = let a = c.args in let k = kind_number a.kind in room_when (leb k 1) (0 ∷ a.r ∷ 0 ∷ []) a.wires.now a.at (le-leb k 1 (of_start _ c.in-Input.is)) c.requires

pub returns-in-Input : goal.returns-in-Input
returns-in-Input c = let a = c.args in let k = kind_number a.kind in when (leb k 1) (0 ∷ a.r ∷ 0 ∷ []) a.wires.now a.at (le-leb k 1 (of_start _ c.in-Input.is)) refl c.three.ensures

pub returns-in_default : goal.returns-in_default
returns-in_default c =
    let a = c.args in
    let k = kind_number a.kind in
    let d = c.in_default in
    unless (leb k 1) (0 ∷ a.r ∷ 0 ∷ []) a.wires.now a.at (lt-leb k 1 (of_no_start _ d.not-Input d.not-Const))
