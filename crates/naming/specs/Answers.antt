-- What naming a graph answers, with the lent words after it.
--
--   name_answer            refusals 1 to 10, as lowering has them; 10 too where the lent words are too few; else 0 and the counts
--   names_after            lent words after naming: the names first, the rest as it was; all as it was where it refuses
--   NameAnswer            both
--
-- Assumes nothing.
use Rattle.std.specs.Prelude.{ℕ, ◌≡◌, Bool, cond, ◌&&◌, List, eqb, leb, length}
use Rattle.std.proofs.lemmas.List.Edits.{sets}
use Rattle.table.specs.Check.{Refusal}
use Rattle.lowered.specs.Lower.{node_total, wire_total}
use Rattle.lowered.specs.Room.{in_limits, refused_by}
use Rattle.naming.specs.Names.{node_names, wire_names}

-- the counts are in their limits, and the lent words are enough for the names
unfoldable pub names_fit : List ℕ → ℕ → ℕ → Bool
names_fit t nodes wires = in_limits t && (leb (length (node_names t)) nodes && leb (length (wire_names t)) wires)

unfoldable pub name_refusal : List ℕ → ℕ → ℕ → Refusal
name_refusal t nodes wires = refused_by t (names_fit t nodes wires)

pub record Named : Type 0 where
  pub number : ℕ
  pub row : ℕ
  pub nodes : ℕ
  pub wires : ℕ

abbrev pub named : ℕ → ℕ → ℕ → ℕ → Named
named k r n w = record { number = k; row = r; nodes = n; wires = w }

-- A `let` waits, so nothing is counted or named where the table is refused.
unfoldable pub name_answer : List ℕ → ℕ → ℕ → Named
name_answer t nodes wires =
    let refused : Refusal = name_refusal t nodes wires in
    let done : Named = named 0 0 (node_total t) (wire_total t) in
    cond (eqb (name_refusal t nodes wires).number 0) done (named refused.number refused.row 0 0)

unfoldable pub names_after : Refusal → List ℕ → List ℕ → List ℕ
names_after refused names lent =
    let written : List ℕ = sets lent 0 names in
    cond (eqb refused.number 0) written lent

-- the answer, and the words lent for nodes and for wires after it
pub record NameAnswer (t nodes wires : List ℕ) (number row n w : ℕ) (nodes-after wires-after : List ℕ) : Type 0 where
  pub answer : named number row n w ≡ name_answer t (length nodes) (length wires)
  pub node_words_lem : nodes-after ≡ names_after (name_refusal t (length nodes) (length wires)) (node_names t) nodes
  pub wire_words : wires-after ≡ names_after (name_refusal t (length nodes) (length wires)) (wire_names t) wires
