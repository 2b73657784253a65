-- FIXED BYTES AND NAMES: the readers `fixed_from` and `kind_from` are exact (`fixed`, `kind_line`).
-- That no kind's line begins another's is computed over the table of row kinds. Assumes nothing.
use Rattle.std.specs.Prelude.{ℕ, zero, suc, ◌+◌, ◌<◌, Bool, ◌&&◌, ◌⊎◌, ◌≡◌, length, get_or}
use Rattle.std.proofs.Math.Bool.{true, false, cond, and-eq-true_iff}
use Rattle.std.proofs.lemmas.Bool.{false≢true}
use mathlib.Core.List.{List, [], ◌∷◌, ◌++◌}
use Rattle.std.proofs.Common.{inl, inr, sym, ◌∙◌, arith, eqb-true, eq-eqb}
use Rattle.std.proofs.Math.Path.{refl, ap, ap₂}
use Rattle.std.proofs.Math.Dec.{eqb}
use Rattle.table.specs.Rows.{RowKind, row_kinds, no_kind, name_of}
use Rattle.sheet.specs.Sheet.{feed}
use Rattle.sheet.specs.Reader.{got, bad, fixed_from, names_from, kind_from}
use Rattle.sheet.specs.Exact.{Exact, Goes, in_other_words, never, same_rest, got_rest, got_value, not_nil, same_head, same_tail, cancel_right, no_longer}
use Rattle.sheet.specs.Either.{either}

-- these bytes, which stand for u
pub record Fixed (ks : List ℕ) (u v : ℕ) (x : List ℕ) : Type 0 where
  pub value : v ≡ u
  pub is : x ≡ ks

module _ (u : ℕ) where
  fixed_back : (ks rest : List ℕ) → fixed_from ks u (ks ++ rest) ≡ got u rest
  unfolding fixed_from
  fixed_back [] rest = refl
  fixed_back (k ∷ ks) rest = rw (eq-eqb k k refl) (fixed_back ks rest)

  fixed_only : (ks text rest : List ℕ) (v : ℕ) → fixed_from ks u text ≡ got v rest → (v ≡ u) × (text ≡ ks ++ rest)
  unfolding fixed_from
  fixed_only [] text rest v h = (sym (got_value h), got_rest h)
  fixed_only (k ∷ ks) [] rest v h = never (sym h)
  fixed_only (k ∷ ks) (b ∷ text) rest v h = by (eqb b k) refl (fixed_only ks text rest v) h
    where
      by : (e : Bool) → eqb b k ≡ e → (fixed_from ks u text ≡ got v rest → (v ≡ u) × (text ≡ ks ++ rest))
          → cond e (fixed_from ks u text) (bad (b ∷ text)) ≡ got v rest → (v ≡ u) × (b ∷ text ≡ k ∷ (ks ++ rest))
      by true q later h = let z = later h in (z.0, ap₂ {C = List ℕ} (λ a l. a ∷ l) (eqb-true b k q) z.1)
      by false q later h = never (sym h)

  -- the bytes before the place where the reader breaks, and those that it wanted from there on
  fixed_live : (ks text rest : List ℕ) → fixed_from ks u text ≡ bad rest → (p : List ℕ) × (q : List ℕ) × (text ≡ p ++ rest) × (ks ≡ p ++ q)
  unfolding fixed_from
  fixed_live [] text rest h = never h
  fixed_live (k ∷ ks) [] rest h = ([], k ∷ ks, same_rest h, refl)
  fixed_live (k ∷ ks) (b ∷ text) rest h = by (eqb b k) refl (fixed_live ks text rest) h
    where
      by : (e : Bool) → eqb b k ≡ e → (fixed_from ks u text ≡ bad rest → (p : List ℕ) × (q : List ℕ) × (text ≡ p ++ rest) × (ks ≡ p ++ q))
          → cond e (fixed_from ks u text) (bad (b ∷ text)) ≡ bad rest → (p : List ℕ) × (q : List ℕ) × (b ∷ text ≡ p ++ rest) × (k ∷ ks ≡ p ++ q)
      by true e later h =
          let z = later h in
          (k ∷ z.0, z.1, ap₂ {C = List ℕ} (λ a l. a ∷ l) (eqb-true b k e) z.2, ap {B = List ℕ} (λ l. k ∷ l) z.3)
      by false e later h = ([], k ∷ ks, same_rest h, refl)

  fixed_local : (ks p rest other : List ℕ) (b : ℕ) → fixed_from ks u (p ++ (b ∷ rest)) ≡ bad (b ∷ rest) → fixed_from ks u (p ++ (b ∷ other)) ≡ bad (b ∷ other)
  unfolding fixed_from
  fixed_local [] p rest other b h = never h
  fixed_local (k ∷ ks) [] rest other b h = by (eqb b k) h
    where
      by : (e : Bool) → cond e (fixed_from ks u rest) (bad (b ∷ rest)) ≡ bad (b ∷ rest) → cond e (fixed_from ks u other) (bad (b ∷ other)) ≡ bad (b ∷ other)
      by true h = let z = fixed_live ks rest (b ∷ rest) h in no_longer z.0 b rest z.2
      by false h = refl
  fixed_local (k ∷ ks) (c ∷ p) rest other b h = by (eqb c k) (fixed_local ks p rest other b) h
    where
      by : (e : Bool) → (fixed_from ks u (p ++ (b ∷ rest)) ≡ bad (b ∷ rest) → fixed_from ks u (p ++ (b ∷ other)) ≡ bad (b ∷ other))
          → cond e (fixed_from ks u (p ++ (b ∷ rest))) (bad (c ∷ p ++ (b ∷ rest))) ≡ bad (b ∷ rest)
          → cond e (fixed_from ks u (p ++ (b ∷ other))) (bad (c ∷ p ++ (b ∷ other))) ≡ bad (b ∷ other)
      by true later h = later h
      by false later h = not_nil (cancel_right (c ∷ p) [] (b ∷ rest) (same_rest h))

  pub fixed : (ks : List ℕ) → Exact (Fixed ks u) (fixed_from ks u)
  fixed ks =
      record {
        back = λ v x rest l. rw (l.value, l.is) (fixed_back ks rest);
        only = λ text rest v h. let z = fixed_only ks text rest v h in record { written = ks; lies = record { value = z.0; is = refl }; is = z.1 };
        live = λ text rest h.
            let z = fixed_live ks text rest h in
            record { before = z.0; is = z.2; goes = inr (record { value = u; more = z.1; is = record { value = refl; is = sym z.3 } }) };
        local = fixed_local ks;
      }

  pub fixed_some : (ks : List ℕ) → Goes (Fixed ks u) []
  fixed_some ks = record { value = u; more = ks; is = record { value = refl; is = refl } }

-- ---- the names of kinds

-- the line of a kind's name
abbrev name_line : RowKind → List ℕ
name_line u = u.name ++ feed

-- the kinds from number k on
abbrev Named : List RowKind → ℕ → ℕ → List ℕ → Type 0
Named [] k v x = ⊥
Named (u ∷ us) k v x = Fixed (name_line u) k v x ⊎ Named us (suc k) v x

-- two texts that differ in a byte which both have
abbrev apart : List ℕ → List ℕ → Bool
apart [] ys = false
apart (x ∷ xs) [] = false
apart (x ∷ xs) (y ∷ ys) = cond (eqb x y) (apart xs ys) true

abbrev apart_from : List ℕ → List RowKind → Bool
apart_from xs [] = true
apart_from xs (u ∷ us) = apart xs (name_line u) && apart_from xs us

abbrev all_apart : List RowKind → Bool
all_apart [] = true
all_apart (u ∷ us) = apart_from (name_line u) us && all_apart us

apart_differ : (xs ys a b : List ℕ) → apart xs ys ≡ true → xs ++ a ≡ ys ++ b → ⊥
apart_differ [] ys a b h e = false≢true h
apart_differ (x ∷ xs) [] a b h e = false≢true h
apart_differ (x ∷ xs) (y ∷ ys) a b h e = apart_differ xs ys a b (rw (eq-eqb x y (same_head e)) at h) (same_tail e)

none_begins : (us : List RowKind) (k w : ℕ) (xs y a b : List ℕ) → apart_from xs us ≡ true → Named us k w y → xs ++ a ≡ y ++ b → ⊥
none_begins [] k w xs y a b h n e = n
none_begins (u ∷ us) k w xs y a b h (inl l) e = apart_differ xs (name_line u) a b ((and-eq-true_iff (apart xs (name_line u)) (apart_from xs us)).0 h).0 (rw (← l.is) e)
none_begins (u ∷ us) k w xs y a b h (inr m) e = none_begins us (suc k) w xs y a b ((and-eq-true_iff (apart xs (name_line u)) (apart_from xs us)).0 h).1 m e

names : (us : List RowKind) (k : ℕ) → all_apart us ≡ true → Exact (Named us k) (names_from us k)
unfolding names_from
names [] k h =
    record {
      back = λ v x rest l. absurd l;
      only = λ text rest v h. never (sym h);
      live = λ text rest h. record { before = []; is = same_rest h; goes = inl refl };
      local = λ p rest other b h. rw (cancel_right p [] (b ∷ rest) (same_rest h));
    }
names (u ∷ us) k h =
    let z = (and-eq-true_iff (apart_from (name_line u) us) (all_apart us)).0 h in
    either (Fixed (name_line u) k) (Named us (suc k)) (fixed_from (name_line u) k) (names_from us (suc k)) (fixed k (name_line u)) (names us (suc k) z.1)
    (λ v w x y a b l m e. none_begins us (suc k) w (name_line u) y a b z.0 m (rw (← l.is) e))

-- the line of kind v
pub record KindLine (v : ℕ) (x : List ℕ) : Type 0 where
  pub kind : v < length row_kinds
  pub is : x ≡ name_of v ++ feed

to_line : (us : List RowKind) (k v : ℕ) (x : List ℕ) → Named us k v x → (i : ℕ) × (v ≡ k + i) × (i < length us) × (x ≡ name_line (get_or us i no_kind))
to_line [] k v x n = absurd n
to_line (u ∷ us) k v x (inl l) = (0, l.value ∙ omega arith, omega arith, l.is)
to_line (u ∷ us) k v x (inr m) = let z = to_line us (suc k) v x m in let e = z.1 in let n = z.2 in (suc z.0, omega arith, omega arith, z.3)

from_line : (us : List RowKind) (k v i : ℕ) (x : List ℕ) → v ≡ k + i → i < length us → x ≡ name_line (get_or us i no_kind) → Named us k v x
from_line [] k v i x e n h = absurd (omega arith)
from_line (u ∷ us) k v zero x e n h = inl (record { value = omega arith; is = h })
from_line (u ∷ us) k v (suc i) x e n h = inr (from_line us (suc k) v i x (omega arith) (omega arith) h)

pub kind_line : Exact KindLine kind_from
kind_line =
    in_other_words (Named row_kinds 0) KindLine kind_from (names row_kinds 0 refl)
    (λ v x n. let z = to_line row_kinds 0 v x n in let e : v ≡ z.0 = z.1 ∙ omega arith in record { kind = rw e z.2; is = rw e z.3 })
    (λ v x l. from_line row_kinds 0 v v x (omega arith) l.kind l.is)

pub kind_some : Goes KindLine []
kind_some = record { value = 0; more = name_of 0 ++ feed; is = record { kind = omega arith; is = refl } }
