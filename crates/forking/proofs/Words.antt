-- Words as the code writes them, one part behind another.
-- Assumes nothing.
use Prim.Native.Nat.{ℕ, zero, suc, ◌+◌, ◌-◌, ◌*◌, ◌<◌, ◌≤◌}
use mathlib.Core.Path.{◌≡◌, refl, sym, ap, ◌∙◌}
use mathlib.Core.List.{List, [], ◌∷◌}
use mathlib.Core.Bool.{Bool, true, false, cond}
use native.Mathlib.Omega.{arith}
use native.Mathlib.Numerals.{add-one}
use borrow.Author.Tests.{eq-eqb, ne_eqb, lt-ltb, le-ltb}
use lib.ListN.{length, get_or, set}
use lib.Seq.{sets}
use lib.Dec.{eqb}
use Rattle.word.specs.Words.{flag}
use Rattle.graph.specs.Below.{joined, total}
use Rattle.graph.specs.Graph.{absent}
use Rattle.table.specs.Rows.{kind_at, word}
use Rattle.lowered.specs.Gathered.{those}
use Rattle.lowered.specs.Lower.{start_words}
use Rattle.laid.specs.Those.{those_more}
use Rattle.forking.specs.Tallied.{one_more, tallied}
use Rattle.forking.specs.Sorted.{outputs_of_row, sort0, sort1, first_of_row, sorted_row, sorted_rows}
use Rattle.forking.specs.Forked.{added_nodes, nodes_by, fork_words, fork_words_by, fork_words_none, fork_words_more, fork_words_all}
use Rattle.forking.specs.Written.{row_inputs, row_outs, stand_of, row_words_by, out_words, start_by, sets_append, written_more, joined_long}

pub seven_words : (g : List ℕ) (p a b c d e f h : ℕ) {g1 g2 : List ℕ} → g1 ≡ sets g p (a ∷ b ∷ c ∷ []) → g2 ≡ sets g1 (p + 3) (d ∷ e ∷ f ∷ h ∷ [])
    → g2 ≡ sets g p (a ∷ b ∷ c ∷ d ∷ e ∷ f ∷ h ∷ [])
seven_words g p a b c d e f h x y =
    y ∙ ap (λ (l : List ℕ). sets l (p + 3) (d ∷ e ∷ f ∷ h ∷ [])) x ∙ sets_append (a ∷ b ∷ c ∷ []) g (d ∷ e ∷ f ∷ h ∷ []) p (p + 3) refl

-- ---- forks

pub chain_more : (s x k f : ℕ) (g : List ℕ) (p : ℕ) {g1 g2 : List ℕ} → 1 < k → g1 ≡ sets g p (5 ∷ 0 ∷ s ∷ []) → g2 ≡ sets g1 (p + 3) (x ∷ absent ∷ absent ∷ f ∷ [])
    → sets g2 (p + 7) (fork_words s (f + 1) (k - 1) (f + 2)) ≡ sets g p (fork_words s x k f)
chain_more s x k f g p h a b =
    let seven : List ℕ = 5 ∷ 0 ∷ s ∷ x ∷ absent ∷ absent ∷ f ∷ [] in
    let rest : List ℕ = fork_words s (f + 1) (k - 1) (f + 2) in
    ap (λ (l : List ℕ). sets l (p + 7) rest) (seven_words g p 5 0 s x absent absent f a b)
    ∙ sets_append seven g rest p (p + 7) refl
    ∙ ap (sets g p) (sym (fork_words_more s x f k h))

pub drain_written : (s x f : ℕ) (g : List ℕ) (p : ℕ) {k : ℕ} {g1 g2 : List ℕ} → k ≡ 0 → g1 ≡ sets g p (6 ∷ 0 ∷ s ∷ []) → g2 ≡ sets g1 (p + 3) (x ∷ absent ∷ absent ∷ absent ∷ [])
    → g2 ≡ sets g p (fork_words s x k f)
drain_written s x f g p e a b = seven_words g p 6 0 s x absent absent absent a b ∙ ap (sets g p) (sym (fork_words_none s x f e))

-- ---- rows and results

pub row_written : (free uses rows seen : List ℕ) (i : ℕ) (g : List ℕ) (p : ℕ) {s1 s2 : List ℕ} {in0 in1 in2 : ℕ} {g1 g2 : List ℕ}
    → in0 ≡ stand_of free uses seen (get_or rows (7 * i + 3) 0) → s1 ≡ one_more seen (get_or rows (7 * i + 3) 0)
    → in1 ≡ stand_of free uses s1 (get_or rows (7 * i + 4) 0) → s2 ≡ one_more s1 (get_or rows (7 * i + 4) 0)
    → in2 ≡ stand_of free uses s2 (get_or rows (7 * i + 5) 0)
    → g1 ≡ sets g p (get_or rows (7 * i) 0 ∷ get_or rows (7 * i + 1) 0 ∷ get_or rows (7 * i + 2) 0 ∷ [])
    → g2 ≡ sets g1 (p + 3) (in0 ∷ in1 ∷ in2 ∷ get_or rows (7 * i + 6) 0 ∷ [])
    → g2 ≡ sets g p (row_words_by free uses rows seen i)
row_written free uses rows seen i g p a sa b sb c x y =
    let sb' : _ ≡ one_more (one_more seen (get_or rows (7 * i + 3) 0)) (get_or rows (7 * i + 4) 0) = rw sa at sb in
    let b' : _ ≡ stand_of free uses (one_more seen (get_or rows (7 * i + 3) 0)) (get_or rows (7 * i + 4) 0) = rw sa at b in
    let c' : _ ≡ stand_of free uses (one_more (one_more seen (get_or rows (7 * i + 3) 0)) (get_or rows (7 * i + 4) 0)) (get_or rows (7 * i + 5) 0) = rw sb' at c in
    rw (← a, ← b', ← c') (seven_words g p (get_or rows (7 * i) 0) (get_or rows (7 * i + 1) 0) (get_or rows (7 * i + 2) 0) _ _ _ (get_or rows (7 * i + 6) 0) x y)

pub row_place_lem : (free uses rows seen : List ℕ) (at i : ℕ) → at + 7 * i ≡ at + length (joined (λ j. row_words_by free uses rows (tallied seen (joined (row_inputs rows) j)) j) i)
row_place_lem free uses rows seen at i =
    let l = joined_long (λ j. row_words_by free uses rows (tallied seen (joined (row_inputs rows) j)) j) 7 (λ j. refl) i in
    omega arith

pub next_row_written : (free uses rows seen : List ℕ) (at i : ℕ) (g : List ℕ) {g1 g2 s1 : List ℕ}
    → g1 ≡ sets g at (joined (λ j. row_words_by free uses rows (tallied seen (joined (row_inputs rows) j)) j) i) → s1 ≡ tallied seen (joined (row_inputs rows) i)
    → g2 ≡ sets g1 (at + 7 * i) (row_words_by free uses rows s1 i)
    → g2 ≡ sets g at (joined (λ j. row_words_by free uses rows (tallied seen (joined (row_inputs rows) j)) j) (i + 1))
next_row_written free uses rows seen at i g {g1 = g1} e s h =
    written_more (λ j. row_words_by free uses rows (tallied seen (joined (row_inputs rows) j)) j) i at g e (row_place_lem free uses rows seen at i)
    (h ∙ ap (λ (z : List ℕ). sets g1 (at + 7 * i) (row_words_by free uses rows z i)) s)

pub next_result_written : (free uses outs seen : List ℕ) (at i : ℕ) (g : List ℕ) {g1 s1 : List ℕ} {v : ℕ} → g1 ≡ sets g at (joined (out_words free uses outs seen) i)
    → s1 ≡ tallied seen (joined (row_outs outs) i) → v ≡ stand_of free uses s1 (get_or outs i 0)
    → set g1 (at + i) v ≡ sets g at (joined (out_words free uses outs seen) (i + 1))
next_result_written free uses outs seen at i g {g1} {s1} {v} e s h =
    let l = joined_long (out_words free uses outs seen) 1 (λ j. refl) i in
    let w : v ≡ stand_of free uses (tallied seen (joined (row_outs outs) i)) (get_or outs i 0) = h ∙ ap (λ (z : List ℕ). stand_of free uses z (get_or outs i 0)) s in
    written_more (out_words free uses outs seen) i at g e (omega arith) (ap (λ (z : ℕ). set g1 (at + i) z) w)

-- ---- room for one wire's forks

pub drained_long : (k at n : ℕ) → k ≡ 0 → at + 7 * added_nodes k ≤ n → at + 7 ≤ n
drained_long zero at n e h = h
drained_long (suc k) at n e h = absurd (omega arith)

pub used_long : (k at n : ℕ) → (k ≡ 0 → ⊥) → at + 7 * added_nodes k ≤ n → (1 ≤ k) × (at + 7 * (k - 1) ≤ n)
used_long k at n e h = (positive k e, rw (ne_eqb k 0 e) at h)
  where
    positive : (k : ℕ) → (k ≡ 0 → ⊥) → 1 ≤ k
    positive zero e = absurd (e refl)
    positive (suc k) e = omega arith

-- ---- starts

pub start_input : (g : List ℕ) (at word inputs : ℕ) {kind : ℕ} → kind ≡ 0
    → (inputs + 1 ≡ inputs + flag (eqb kind 0)) × (set (set g at 0) (at + 1) inputs ≡ sets g at (start_by kind word inputs))
start_input g at word inputs {kind} e = (rw (eq-eqb kind 0 e), rw (eq-eqb kind 0 e, add-one at))

pub start_constant : (g : List ℕ) (at word inputs : ℕ) {kind : ℕ} → (kind ≡ 0 → ⊥)
    → (inputs ≡ inputs + flag (eqb kind 0)) × (set (set g at 1) (at + 1) word ≡ sets g at (start_by kind word inputs))
start_constant g at word inputs {kind} n = (rw (ne_eqb kind 0 n) (omega arith), rw (ne_eqb kind 0 n, add-one at))

-- how many INPUT rows came before
abbrev pub inputs_before : List ℕ → ℕ → ℕ
inputs_before t r = length (those (λ q. eqb (kind_at t q) 0) r)

pub inputs_more : (t : List ℕ) (r : ℕ) → inputs_before t (r + 1) ≡ inputs_before t r + flag (eqb (kind_at t r) 0)
inputs_more t r = rw (add-one r) (those_more (λ q. eqb (kind_at t q) 0) r)

start_long : (t : List ℕ) (r : ℕ) → length (start_words t r) ≡ 2
start_long t r = go (eqb (kind_at t r) 0)
  where
    go : (b : Bool) → length (cond b (0 ∷ inputs_before t r ∷ []) (1 ∷ word t r 1 ∷ [])) ≡ 2
    go true = refl
    go false = refl

pub starts_long : (t : List ℕ) (n : ℕ) → length (joined (start_words t) n) ≡ 2 * n
starts_long t n = joined_long (start_words t) 2 (start_long t) n

pub next_start_written : (t : List ℕ) (at r : ℕ) (g : List ℕ) {g1 g2 : List ℕ} {inputs : ℕ} → inputs ≡ inputs_before t r → g1 ≡ sets g at (joined (start_words t) r)
    → g2 ≡ sets g1 (at + 2 * r) (start_by (kind_at t r) (word t r 1) inputs) → g2 ≡ sets g at (joined (start_words t) (r + 1))
next_start_written t at r g {g1} {g2} e h k =
    let l = starts_long t r in
    written_more (start_words t) r at g h (let z : at + 2 * r ≡ at + length (joined (start_words t) r) = omega arith in z)
    (k ∙ ap (λ (n : ℕ). sets g1 (at + 2 * r) (start_by (kind_at t r) (word t r 1) n)) e)

-- ---- sorts

module _ (rows : List ℕ) (i : ℕ) (sorts : List ℕ) where
  pub one_sort : {m f s : ℕ} → m ≡ outputs_of_row rows i → m < 2 → f ≡ first_of_row rows i → s ≡ sort0 rows i → set sorts f s ≡ sorted_row rows i sorts
  unfolding sorted_row
  one_sort {m} e l ef es = rw (← e, lt-ltb m 2 l, ← ef, ← es)

  pub two_sorts : {m f s0 s1 : ℕ} → m ≡ outputs_of_row rows i → 2 ≤ m → f ≡ first_of_row rows i → s0 ≡ sort0 rows i → s1 ≡ sort1 rows i
      → set (set sorts f s0) (f + 1) s1 ≡ sorted_row rows i sorts
  unfolding sorted_row
  two_sorts {m} e l ef e0 e1 = rw (← e, le-ltb m 2 l, ← ef, ← e0, ← e1)

pub sorted_more : (rows : List ℕ) (i : ℕ) (sorts : List ℕ) {s1 s2 : List ℕ} → s1 ≡ sorted_rows rows i sorts → s2 ≡ sorted_row rows i s1 → s2 ≡ sorted_rows rows (i + 1) sorts
unfolding sorted_rows
sorted_more rows i sorts e h = rw (add-one i, ← e) h

-- ---- the forks of all wires

pub forks_at : (sorts uses free : List ℕ) (at w : ℕ) (g : List ℕ) {i p : ℕ} {g1 g2 : List ℕ} → i ≡ w → p ≡ at + 7 * total (nodes_by uses) w
    → g1 ≡ sets g at (joined (fork_words_by sorts uses free) w) → g2 ≡ sets g1 p (fork_words (get_or sorts i 0) w (get_or uses i 0) (get_or free i 0))
    → g2 ≡ sets g at (joined (fork_words_by sorts uses free) (w + 1))
forks_at sorts uses free at w g {i} {p} {g1} e q h k =
    let l = fork_words_all sorts uses free w in
    written_more (fork_words_by sorts uses free) w at g h (let z : p ≡ at + length (joined (fork_words_by sorts uses free) w) = omega arith in z)
    (k ∙ ap (λ (j : ℕ). sets g1 p (fork_words (get_or sorts j 0) w (get_or uses j 0) (get_or free j 0))) e)
