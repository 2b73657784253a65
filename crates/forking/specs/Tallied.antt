-- How often each wire is used, tallied in a table with a place for each wire.
--
--   Place, Below          an input's source is X or has a place; the table's words are small
--   one_more, tallied      the table after one use, after a list of uses
--   tallied_at            a word has grown by how often its wire stands in the list
--   tallied_below         and by no more than the list's length
--   filled_more           a table filled one place further
--
-- Assumes nothing.
use Rattle.std.specs.Prelude.{ℕ, ◌+◌, ◌<◌, ◌≤◌, ◌≡◌, refl, ◌⊎◌, Bool, true, false, cond, List, [], ◌∷◌, ◌++◌, eqb, length, get_or, set, replicate}
use Rattle.std.proofs.Common.{sym, ◌∙◌, subst, arith, eqb-true, length-set, get_or-set_same, get_or-set_other}
use Rattle.std.proofs.Math.Decide.{ℕ_discrete}
use Rattle.std.proofs.lemmas.Bool.{eqb-false}
use Rattle.std.proofs.lemmas.List.{get_or-replicate, length-replicate}
use Rattle.word.specs.Words.{flag}
use Rattle.graph.specs.Below.{times}
use Rattle.graph.specs.Graph.{absent}

abbrev pub Place : ℕ → Type 0
Place x = (x ≡ absent) ⊎ (x < 8192)

pub record Below (m : ℕ) (table : List ℕ) : Type 0 where
  pub long : length table ≡ 8192
  pub low : (w : ℕ) → w < 8192 → get_or table w 0 ≤ m

unfoldable pub one_more : List ℕ → ℕ → List ℕ
one_more seen x = cond (eqb x absent) seen (set seen x (get_or seen x 0 + 1))

unfoldable pub tallied : List ℕ → List ℕ → List ℕ
tallied seen [] = seen
tallied seen (x ∷ xs) = tallied (one_more seen x) xs

-- ---- laws

pub tallied_append : (seen xs ys : List ℕ) → tallied seen (xs ++ ys) ≡ tallied (tallied seen xs) ys
unfolding tallied
tallied_append seen [] ys = refl
tallied_append seen (x ∷ xs) ys = tallied_append (one_more seen x) xs ys

one_more_long : (seen : List ℕ) (x : ℕ) → length (one_more seen x) ≡ length seen
unfolding one_more
one_more_long seen x = go (eqb x absent)
  where
    go : (b : Bool) → length (cond b seen (set seen x (get_or seen x 0 + 1))) ≡ length seen
    go true = refl
    go false = length-set seen x (get_or seen x 0 + 1)

pub tallied_long : (seen xs : List ℕ) → length (tallied seen xs) ≡ length seen
unfolding tallied
tallied_long seen [] = refl
tallied_long seen (x ∷ xs) = tallied_long (one_more seen x) xs ∙ one_more_long seen x

one_more_at : (seen : List ℕ) (x w : ℕ) → w < length seen → w < absent → get_or (one_more seen x) w 0 ≡ get_or seen w 0 + flag (eqb w x)
unfolding one_more
one_more_at seen x w l h = go (eqb x absent) (eqb w x) refl refl
  where
    go : (a b : Bool) → eqb x absent ≡ a → eqb w x ≡ b → get_or (cond a seen (set seen x (get_or seen x 0 + 1))) w 0 ≡ get_or seen w 0 + flag b
    go true true p q = let e = eqb-true x absent p in let d = eqb-true w x q in absurd (omega arith)
    go true false p q = omega arith
    go false true p q = let d = eqb-true w x q in rw (← d) (get_or-set_same seen w (get_or seen w 0 + 1) 0 l)
    go false false p q = let z : get_or seen w 0 + 0 ≡ get_or seen w 0 = omega arith in rw z (get_or-set_other seen x w (get_or seen x 0 + 1) 0 (eqb-false w x q))

pub tallied_at : (seen xs : List ℕ) (w : ℕ) → w < length seen → w < absent → get_or (tallied seen xs) w 0 ≡ get_or seen w 0 + times w xs
unfolding tallied times
tallied_at seen [] w l h = omega arith
tallied_at seen (x ∷ xs) w l h =
    let r = tallied_at (one_more seen x) xs w (rw (one_more_long seen x) l) h in
    let o = one_more_at seen x w l h in
    omega arith

pub times_few : (w : ℕ) (xs : List ℕ) → times w xs ≤ length xs
unfolding times
times_few w [] = omega arith
times_few w (x ∷ xs) = let r = times_few w xs in let f = one (eqb w x) in omega arith
  where
    one : (b : Bool) → flag b ≤ 1
    one true = omega arith
    one false = omega arith

pub tallied_below : {m n : ℕ} (seen xs : List ℕ) → Below m seen → m + length xs ≤ n → Below n (tallied seen xs)
tallied_below {m} {n} seen xs h q = record { long = tallied_long seen xs ∙ h.long; low = low }
  where
    low : (w : ℕ) → w < 8192 → get_or (tallied seen xs) w 0 ≤ n
    low w b =
        let l = h.long in
        let a = tallied_at seen xs w (omega arith) (omega arith) in
        let t = times_few w xs in
        let s = h.low w b in
        omega arith

-- from a table of zeros
pub none_tallied : Below 0 (replicate 8192 0)
none_tallied = record { long = length-replicate {A = ℕ} 8192 0; low = λ w h. let e = get_or-replicate {A = ℕ} 8192 w 0 0 h in omega arith }

-- ---- a table filled place by place

pub filled_more : (t : List ℕ) (j v : ℕ) (f : ℕ → ℕ) → j < length t → ((p : ℕ) → p < j → get_or t p 0 ≡ f p) → v ≡ f j
    → (p : ℕ) → p < j + 1 → get_or (set t j v) p 0 ≡ f p
filled_more t j v f l h e p q =
    elim (ℕ_discrete j p) [
      | yes z ↦ subst (λ (x : ℕ). get_or (set t j v) x 0 ≡ f x) z (get_or-set_same t j v 0 l ∙ e)
      | no z ↦ get_or-set_other t j p v 0 (λ y. z (sym y)) ∙ h p (omega arith)
    ]
