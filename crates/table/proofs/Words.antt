-- Searches word by word, and what the code reads from the table of row kinds.
-- Assumes nothing.
use Prim.Native.Nat.{ℕ, suc, ◌+◌, ◌-◌, ◌<◌, ◌≤◌}
use mathlib.Core.Bool.{Bool, true, false}
use mathlib.Core.Path.{◌≡◌, refl, ap}
use native.Mathlib.Omega.{arith}
use Rattle.table.specs.Rows.{Field, summed, fields_of, in_use, sort_named}
use Rattle.table.specs.Said.{field_of}
use Rattle.table.specs.declared.Field.{Field as SaidField}
use Rattle.table.specs.declared.Field.TheVariants.{Unused, Any, Word, Flag, Codes}
use Rattle.table.specs.Clauses.{first_from}

-- from k up to the end e
less : (e k : ℕ) → k < e → e - k ≡ suc (e - (k + 1))
less e k h = omega arith

done : (e k : ℕ) → e ≤ k → e - k ≡ 0
done e k h = omega arith

module _ (p : ℕ → Bool) (e k : ℕ) where
  pub first_go : k < e → p k ≡ true → first_from p (e - k) k ≡ first_from p (e - (k + 1)) (k + 1)
  unfolding first_from
  first_go h z = rw (less e k h, z)

  pub first_stop : k < e → p k ≡ false → first_from p (e - k) k ≡ k
  unfolding first_from
  first_stop h z = rw (less e k h, z)

  pub first_end : e ≤ k → first_from p (e - k) k ≡ 0
  unfolding first_from
  first_end h = rw (done e k h)

-- the words of a kind, counted
pub counted : (f : Field → ℕ) (kind : ℕ) {a b c d e : Field} {v w x y z : ℕ} → (record { a = a; b = b; c = c; d = d; e = e }) ≡ fields_of kind → v ≡ f a → w ≡ f b → x ≡ f c → y ≡ f d → z ≡ f e → v + w + x + y + z ≡ summed f (fields_of kind)
counted f kind q p1 p2 p3 p4 p5 = rw (p1, p2, p3, p4, p5) (ap (summed f) q)

-- what a row says of a word that it does not leave unused is in use
pub in_use_lem : (u : SaidField) → (u ≡ Unused → ⊥) → in_use (field_of u) ≡ 1
in_use_lem Unused n = absurd (n refl)
in_use_lem Any n = refl
in_use_lem Word n = refl
in_use_lem Flag n = refl
in_use_lem (Codes m) n = refl

pub no_flag : (u : SaidField) → (u ≡ Flag → ⊥) → sort_named (field_of u) ≡ 0
no_flag Unused n = refl
no_flag Any n = refl
no_flag Word n = refl
no_flag Flag n = absurd (n refl)
no_flag (Codes m) n = refl
