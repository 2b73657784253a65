-- Visible values: what the check looks at, one test after the other.
-- Assumes nothing.
use Prim.Native.Nat.{ℕ, ◌<◌, ◌≤◌}
use mathlib.Core.Bool.{Bool, true, false, cond, not}
use mathlib.Core.List.{List}
use mathlib.Core.Path.{◌≡◌}
use borrow.Author.Tests.{ne_eqb, eq-eqb, lt-ltb, le-ltb, le-leb, lt-leb}
use lib.Dec.{eqb}
use Rattle.table.specs.Rows.{kind_at, size, word}
use Rattle.table.specs.Scan.{Loop, stack_at, body_of, outward, read_stack, home, holds, body_open, end_passed}
use Rattle.table.specs.Clauses.{sight, hidden_body, hidden_word, detail, name_detail}

-- the loops open where the operands of row r are read
pub read_is : (t : List ℕ) (r : ℕ) {kind : ℕ} {s x : List Loop} → kind ≡ kind_at t r → s ≡ stack_at t r → x ≡ cond (eqb kind 5) (outward s) s → x ≡ read_stack t r
unfolding read_stack
read_is t r k s h = rw (← k, ← s) h

module _ (t : List ℕ) (r v : ℕ) where
  pub not_earlier : r ≤ v → sight t r v ≡ 1
  unfolding sight
  not_earlier h = rw (le-ltb v r h)

  pub no_value : {kind : ℕ} → v < r → kind ≡ kind_at t v → 6 < kind → sight t r v ≡ 2
  unfolding sight
  no_value h e k = rw (lt-ltb v r h, ← e, lt-leb _ 6 k)

  module _ {kind n b : ℕ} {s : List Loop} (h : v < r) (e : kind ≡ kind_at t v) (k : kind ≤ 6) (z : n ≡ size t) (eb : b ≡ home t v) (es : s ≡ read_stack t r) where
    pub seen_there : body_open n b s ≡ true → (kind ≡ 6 → ⊥) → sight t r v ≡ 0
    unfolding sight end_passed
    seen_there o m = rw (lt-ltb v r h, ← e, le-leb kind 6 k, ← eb, ← es, ← z, o, ne_eqb kind 6 m)

    pub end_to_come : (l : Bool) → body_open n b s ≡ true → kind ≡ 6 → l ≡ holds (body_of t v) (stack_at t r) → sight t r v ≡ cond (not l) 0 5
    unfolding sight end_passed
    end_to_come l o m g = rw (lt-ltb v r h, ← e, le-leb kind 6 k, ← eb, ← es, ← z, o, eq-eqb kind 6 m, ← g)

    pub not_there : (l : Bool) → body_open n b s ≡ false → l ≡ body_open n b (stack_at t r) → sight t r v ≡ cond l 4 3
    unfolding sight
    not_there l o g = rw (lt-ltb v r h, ← e, le-leb kind 6 k, ← eb, ← es, ← z, o, ← g)

-- all that is told of a hidden name
pub name_told : (t : List ℕ) (r k : ℕ) {v f b : ℕ} → hidden_word t r ≡ k → v ≡ word t r k → f ≡ sight t r v → b ≡ hidden_body t (sight t r v) v → detail f k b 0 0 ≡ name_detail t r
unfolding name_detail
name_told t r k h ev ef eb = rw (h, ← ev, ← eb, ← ef)
