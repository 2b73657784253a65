-- The whole graph: header, starts, results, rows and forks written one behind another are the words of the lowered table.
-- Assumes nothing.
use Prim.Native.Nat.{ℕ, ◌+◌, ◌*◌, ◌≤◌}
use mathlib.Core.Path.{◌≡◌, refl, sym, ap, ◌∙◌}
use mathlib.Core.List.{List, [], ◌∷◌, ◌++◌}
use native.Mathlib.Omega.{arith}
use lib.ListN.{length, get_or, get_elem?, replicate}
use lib.Seq.{sets}
use Rattle.graph.specs.Below.{joined, total}
use Rattle.lowered.specs.Lower.{roles, out_rows, plain_nodes, plain_wires, start_words, node_total, wire_total, start_total, result_total, lowered_words}
use Rattle.laid.specs.Indexed.{joined_same}
use Rattle.laid.specs.Words.{words_long}
use Rattle.written.specs.Words.{result_words, fork_words_at, lowered_by_number}
use Rattle.written.specs.Words as words
use Rattle.forking.specs.Tallied.{tallied, none_tallied}
use Rattle.forking.specs.Forked.{nodes_by, fork_words_by}
use Rattle.forking.specs.Written.{row_inputs, row_words, out_words, sets_append, joined_long}
use Rattle.forking.specs.Sorted.{sorted_rows, sorts_of}
use Rattle.measuring.specs.Ready.{starts_few, starts_are_rows, results_few, node_total_of, Counted, Ready, ready_results, ready_rows, ready_forks}
use Rattle.forking.proofs.Words.{starts_long}

-- the room that the parts need
pub record Rooms (t uses : List ℕ) (P W S R G : ℕ) : Type 0 where
  pub starts : S ≤ 512
  pub table : 6 * S ≤ length t
  pub results : R ≤ 512
  pub nodes : P ≤ 4096
  pub wires : W ≤ 8192
  pub all : 4 + 2 * S + R + 7 * P + 7 * total (nodes_by uses) W ≤ G

pub rooms_of : (t rows outs uses free : List ℕ) → Ready t rows outs uses free → {P W N A S R : ℕ} (G : ℕ) → Counted t P W N A S R → length (lowered_words t) ≤ G
    → Rooms t uses P W S R G
rooms_of t rows outs uses free Y {W = W} G C h =
    let long = words_long t in
    let n = node_total_of t uses Y.uses_right Y.structure Y.wires_few in
    let w = ap (total (nodes_by uses)) C.plain_wires_lem in
    let a = starts_few t Y.structure in
    let b = starts_are_rows t Y.structure in
    let c = results_few t Y.structure in
    let d = Y.structure.words in
    let e0 = C.plain in
    let e1 = C.plain_wires_lem in
    let e2 = C.starts in
    let e3 = C.results in
    let f0 = Y.nodes_few in
    let f1 = Y.wires_few in
    record { starts = omega arith; table = omega arith; results = omega arith; nodes = omega arith; wires = omega arith; all = omega arith }

parts_written : (g a b c d e : List ℕ) (p q r s : ℕ) {g1 g2 g3 g4 g5 : List ℕ} → g1 ≡ sets g 0 a → g2 ≡ sets g1 p b → g3 ≡ sets g2 q c → g4 ≡ sets g3 r d → g5 ≡ sets g4 s e
    → p ≡ 0 + length a → q ≡ p + length b → r ≡ q + length c → s ≡ r + length d → g5 ≡ sets g 0 (a ++ (b ++ (c ++ (d ++ e))))
parts_written g a b c d e p q r s {g1} {g2} {g3} {g4} h1 h2 h3 h4 h5 ep eq er es =
    h5 ∙ ap (λ (l : List ℕ). sets l s e) h4 ∙ sets_append d g3 e r s es
    ∙ ap (λ (l : List ℕ). sets l r (d ++ e)) h3 ∙ sets_append c g2 (d ++ e) q r er
    ∙ ap (λ (l : List ℕ). sets l q (c ++ (d ++ e))) h2 ∙ sets_append b g1 (c ++ (d ++ e)) p q eq
    ∙ ap (λ (l : List ℕ). sets l p (b ++ (c ++ (d ++ e)))) h1 ∙ sets_append a g (b ++ (c ++ (d ++ e))) 0 p ep

module _ (t rows outs uses free : List ℕ) (Y : Ready t rows outs uses free) (P W N A S R : ℕ) (C : Counted t P W N A S R) where
  abbrev zeros : List ℕ
  zeros = replicate 8192 0

  results_are : (seen : List ℕ) → seen ≡ tallied zeros (joined (row_inputs rows) (plain_nodes t))
      → joined (out_words free uses outs seen) (result_total t) ≡ joined (λ i. result_words t (get_elem? (out_rows t) i)) (result_total t)
  results_are seen e = joined_same (out_words free uses outs seen) (λ i. result_words t (get_elem? (out_rows t) i)) (result_total t) (ready_results t rows outs uses free Y zeros none_tallied seen e)

  rows_are : joined (row_words free uses rows zeros) (plain_nodes t) ≡ joined (λ i. words.row_words t (get_elem? (roles t) i)) (plain_nodes t)
  rows_are = joined_same (row_words free uses rows zeros) (λ i. words.row_words t (get_elem? (roles t) i)) (plain_nodes t) (ready_rows t rows outs uses free Y zeros none_tallied)

  forks_are : (sorts : List ℕ) → sorts ≡ sorted_rows rows (plain_nodes t) zeros → joined (fork_words_by sorts uses free) (plain_wires t) ≡ joined (fork_words_at t) (plain_wires t)
  forks_are sorts e =
      joined_same (fork_words_by sorts uses free) (fork_words_at t) (plain_wires t)
      (λ w h. ready_forks t rows outs uses free Y sorts w h (ap (λ (s : List ℕ). get_or s w 0) e ∙ sorts_of t rows Y.laid zeros none_tallied Y.wires_few w h))

  -- WHAT IS WRITTEN IS THE LOWERED TABLE
  pub graph_written : (g seen sorts : List ℕ) (p s r : ℕ) {g1 g2 g3 g4 g5 : List ℕ} → p ≡ P → s ≡ S → r ≡ R
      → g1 ≡ sets g 0 (N ∷ A ∷ S ∷ R ∷ [])
      → g2 ≡ sets g1 4 (joined (start_words t) s)
      → seen ≡ tallied zeros (joined (row_inputs rows) p)
      → g3 ≡ sets g2 (4 + 2 * s) (joined (out_words free uses outs seen) r)
      → g4 ≡ sets g3 (4 + 2 * s + r) (joined (row_words free uses rows zeros) p)
      → sorts ≡ sorted_rows rows p zeros
      → g5 ≡ sets g4 (4 + 2 * s + r + 7 * p) (joined (fork_words_by sorts uses free) W)
      → g5 ≡ sets g 0 (lowered_words t)
  graph_written g seen sorts p s r {g1} {g2} {g3} {g4} {g5} ep es er h1 h2 hs h3 h4 ho h5 =
      let p' : p ≡ plain_nodes t = ep ∙ C.plain in
      let s' : s ≡ start_total t = es ∙ C.starts in
      let r' : r ≡ result_total t = er ∙ C.results in
      let a : List ℕ = node_total t ∷ wire_total t ∷ start_total t ∷ result_total t ∷ [] in
      let b : List ℕ = joined (start_words t) (start_total t) in
      let c : List ℕ = joined (λ i. result_words t (get_elem? (out_rows t) i)) (result_total t) in
      let d : List ℕ = joined (λ i. words.row_words t (get_elem? (roles t) i)) (plain_nodes t) in
      let e : List ℕ = joined (fork_words_at t) (plain_wires t) in
      let seen' : seen ≡ tallied zeros (joined (row_inputs rows) (plain_nodes t)) = hs ∙ ap (λ (n : ℕ). tallied zeros (joined (row_inputs rows) n)) p' in
      let sorts' : sorts ≡ sorted_rows rows (plain_nodes t) zeros = ho ∙ ap (λ (n : ℕ). sorted_rows rows n zeros) p' in
      let ce : joined (out_words free uses outs seen) r ≡ joined (λ i. result_words t (get_elem? (out_rows t) i)) (result_total t) = ap (joined (out_words free uses outs seen)) r' ∙ results_are seen seen' in
      let de : joined (row_words free uses rows zeros) p ≡ joined (λ i. words.row_words t (get_elem? (roles t) i)) (plain_nodes t) = ap (joined (row_words free uses rows zeros)) p' ∙ rows_are in
      let ee : joined (fork_words_by sorts uses free) W ≡ joined (fork_words_at t) (plain_wires t) = ap (joined (fork_words_by sorts uses free)) C.plain_wires_lem ∙ forks_are sorts sorts' in
      let lb = starts_long t (start_total t) in
      let lc = sym (ap length ce) ∙ joined_long (out_words free uses outs seen) 1 (λ j. refl) r in
      let ld = sym (ap length de) ∙ joined_long (row_words free uses rows zeros) 7 (λ j. refl) p in
      parts_written g a b c d e 4 (4 + 2 * s) (4 + 2 * s + r) (4 + 2 * s + r + 7 * p)
      (h1 ∙ ap (sets g 0) (header C.nodes C.wires C.starts C.results))
      (h2 ∙ ap (λ (n : ℕ). sets g1 4 (joined (start_words t) n)) s')
      (h3 ∙ ap (sets g2 (4 + 2 * s)) ce)
      (h4 ∙ ap (sets g3 (4 + 2 * s + r)) de)
      (h5 ∙ ap (sets g4 (4 + 2 * s + r + 7 * p)) ee)
      refl (omega arith) (omega arith) (omega arith)
      ∙ ap (sets g 0) (sym (lowered_by_number t Y.structure))
    where
      header : {a b c d w x y z : ℕ} → a ≡ w → b ≡ x → c ≡ y → d ≡ z → a ∷ b ∷ c ∷ d ∷ [] ≡ w ∷ x ∷ y ∷ z ∷ []
      header h i j k = rw (h, i, j, k)
