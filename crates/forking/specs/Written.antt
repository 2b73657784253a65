-- The words of a graph from scratch rows: each part as a list, one number after another.
--
--   row_inputs, row_outs            the sources of a row's inputs, of a result
--   Sourced                       they are X or have a place
--   stand_of                       the wire on which the next use of a source stands
--   row_words, out_words            a row's words, a result's word
--   sets_append                   one part behind another
--
-- Assumes nothing.
use Rattle.std.specs.Prelude.{ℕ, zero, suc, ◌+◌, ◌*◌, ◌<◌, ◌≤◌, ◌≡◌, cond, List, [], ◌∷◌, ◌++◌, eqb, length, get_or, set}
use Rattle.std.proofs.Common.{sym, ap, ◌∙◌, arith, length-append}
use Rattle.std.proofs.lemmas.List.Edits.{sets}
use Rattle.graph.specs.Below.{joined, joined_more}
use Rattle.graph.specs.Graph.{absent}
use Rattle.laid.specs.Counts.{leg_at}
use Rattle.forking.specs.Tallied.{Place, one_more, tallied, tallied_append}

abbrev pub row_inputs : List ℕ → ℕ → List ℕ
row_inputs rows i = get_or rows (7 * i + 3) 0 ∷ get_or rows (7 * i + 4) 0 ∷ get_or rows (7 * i + 5) 0 ∷ []

abbrev pub row_outs : List ℕ → ℕ → List ℕ
row_outs outs i = get_or outs i 0 ∷ []

pub record Sourced (rows : List ℕ) (i : ℕ) : Type 0 where
  pub in0 : Place (get_or rows (7 * i + 3) 0)
  pub in1 : Place (get_or rows (7 * i + 4) 0)
  pub in2 : Place (get_or rows (7 * i + 5) 0)

unfoldable pub stand_of : List ℕ → List ℕ → List ℕ → ℕ → ℕ
stand_of free uses seen x = cond (eqb x absent) absent (leg_at x (get_or free x 0) (get_or uses x 0) (get_or seen x 0))

abbrev pub row_words_by : List ℕ → List ℕ → List ℕ → List ℕ → ℕ → List ℕ
row_words_by free uses rows seen i =
    get_or rows (7 * i) 0 ∷ get_or rows (7 * i + 1) 0 ∷ get_or rows (7 * i + 2) 0
    ∷ stand_of free uses seen (get_or rows (7 * i + 3) 0)
    ∷ stand_of free uses (one_more seen (get_or rows (7 * i + 3) 0)) (get_or rows (7 * i + 4) 0)
    ∷ stand_of free uses (one_more (one_more seen (get_or rows (7 * i + 3) 0)) (get_or rows (7 * i + 4) 0)) (get_or rows (7 * i + 5) 0)
    ∷ get_or rows (7 * i + 6) 0
    ∷ []

-- row i, when the uses before it are tallied
abbrev pub row_words : List ℕ → List ℕ → List ℕ → List ℕ → ℕ → List ℕ
row_words free uses rows seen i = row_words_by free uses rows (tallied seen (joined (row_inputs rows) i)) i

abbrev pub out_words : List ℕ → List ℕ → List ℕ → List ℕ → ℕ → List ℕ
out_words free uses outs seen i = stand_of free uses (tallied seen (joined (row_outs outs) i)) (get_or outs i 0) ∷ []

-- a start's words, when so many inputs came before
abbrev pub start_by : ℕ → ℕ → ℕ → List ℕ
start_by kind word inputs = cond (eqb kind 0) (0 ∷ inputs ∷ []) (1 ∷ word ∷ [])

-- the scratch of a table with so many nodes, results and wires before forks: every source has a place
pub record Scratch (rows : List ℕ) (nodes : ℕ) (outs : List ℕ) (results wires : ℕ) : Type 0 where
  pub nodes_few : nodes ≤ 4096
  pub results_few : results ≤ 512
  pub wires_few : wires ≤ 8192
  pub sourced : (i : ℕ) → i < nodes → Sourced rows i
  pub result : (i : ℕ) → i < results → Place (get_or outs i 0)

-- the table of all uses
unfoldable pub uses_of : List ℕ → ℕ → List ℕ → ℕ → List ℕ → List ℕ
uses_of rows nodes outs results none = tallied (tallied none (joined (row_inputs rows) nodes)) (joined (row_outs outs) results)

-- ---- laws

pub sets_append : (xs l ys : List ℕ) (p q : ℕ) → q ≡ p + length xs → sets (sets l p xs) q ys ≡ sets l p (xs ++ ys)
sets_append [] l ys p q e = ap (λ (k : ℕ). sets l k ys) (omega arith)
sets_append (x ∷ xs) l ys p q e = sets_append xs (set l p x) ys (suc p) q (omega arith)

pub joined_long : (f : ℕ → List ℕ) (c : ℕ) → ((i : ℕ) → length (f i) ≡ c) → (n : ℕ) → length (joined f n) ≡ c * n
unfolding joined
joined_long f c h zero = omega arith
joined_long f c h (suc n) = let r = joined_long f c h n in let e = h n in let a = length-append (joined f n) (f n) in omega arith

-- one more list behind those written
pub written_more : (f : ℕ → List ℕ) (i at : ℕ) (g : List ℕ) {g1 g2 : List ℕ} {p : ℕ} → g1 ≡ sets g at (joined f i) → p ≡ at + length (joined f i)
    → g2 ≡ sets g1 p (f i) → g2 ≡ sets g at (joined f (i + 1))
written_more f i at g {p = p} e q h = h ∙ rw (joined_more f i, e) (sets_append (joined f i) g (f i) at p q)

pub tallied_more : (f : ℕ → List ℕ) (i : ℕ) (seen : List ℕ) {s1 s2 : List ℕ} → s1 ≡ tallied seen (joined f i) → s2 ≡ tallied s1 (f i)
    → s2 ≡ tallied seen (joined f (i + 1))
tallied_more f i seen e h = h ∙ rw (joined_more f i, e) (sym (tallied_append seen (joined f i) (f i)))

pub three_words : (l : List ℕ) (at a b c : ℕ) → set (set (set l at a) (at + 1) b) (at + 2) c ≡ sets l at (a ∷ b ∷ c ∷ [])
three_words l at a b c =
    let e1 : at + 1 ≡ suc at = omega arith in
    let e2 : at + 2 ≡ suc (suc at) = omega arith in
    rw (e1, e2)

pub four_words : (l : List ℕ) (at a b c d : ℕ) → set (set (set (set l at a) (at + 1) b) (at + 2) c) (at + 3) d ≡ sets l at (a ∷ b ∷ c ∷ d ∷ [])
four_words l at a b c d =
    let e1 : at + 1 ≡ suc at = omega arith in
    let e2 : at + 2 ≡ suc (suc at) = omega arith in
    let e3 : at + 3 ≡ suc (suc (suc at)) = omega arith in
    rw (e1, e2, e3)
