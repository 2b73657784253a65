-- The table of reads as the code fills it: one read, one node, one more node, one more result.
-- Assumes nothing.
use Rattle.std.specs.Prelude.{Option as Maybe, None, Some}
use Rattle.graph.specs.Said.{listed_of}
use Prim.Native.Nat.{ℕ, ◌+◌, ◌<◌}
use mathlib.Core.Path.{◌≡◌}
use mathlib.Core.List.{List, [], ◌∷◌}
use lib.Dec.{eqb, ltb}
use lib.ListN.{get_or, set, replicate}
use Rattle.word.specs.Words.{pick}
use Rattle.step.specs.Kinds.{kind_of, inputs}
use Rattle.graph.specs.Below.{joined, joined_more}
use Rattle.graph.specs.Graph.{node_count, row_place, result_count, column, node_at, node_reads, result_at, results, reads}
use Rattle.graph.specs.Refusal.{once_read}
use Rattle.graph.specs.Counted.{once_more, counted, counted_append, counted_once}
use Rattle.graph.proofs.Rows.{reads_at}

pub one_read : (t : List ℕ) {o : Maybe ℕ} {w wire x : ℕ} → o ≡ Some wire → w ≡ wire → x ≡ once_more (get_or t w 0) → set t w x ≡ counted t (listed_of o)
unfolding counted
one_read t h e ex = rw (h, ex, e)

pub no_read : (t : List ℕ) {o : Maybe ℕ} → o ≡ None → t ≡ counted t (listed_of o)
unfolding counted
no_read t h = rw h

pub one_node : (g : List ℕ) (i p : ℕ) → i < node_count g → p ≡ row_place g i → (t : List ℕ) {t1 t2 t3 : List ℕ} (m : ℕ)
    → m ≡ column inputs (kind_of (get_or g p 0))
    → t1 ≡ counted t (pick (ltb 0 m) (get_or g (p + 3) 0 ∷ []) [])
    → t2 ≡ counted t1 (pick (ltb 1 m) (get_or g (p + 4) 0 ∷ []) [])
    → t3 ≡ counted t2 (pick (ltb 2 m) (get_or g (p + 5) 0 ∷ []) [])
    → t3 ≡ counted t (node_reads (node_at g i))
one_node g i p h e t m em e1 e2 e3 = rw (reads_at g i p h e, ← em, counted_append, counted_append, ← e1, ← e2) e3

pub one_more_lem : (f : ℕ → List ℕ) (i : ℕ) (t₀ : List ℕ) {t u : List ℕ} → t ≡ counted t₀ (joined f i) → u ≡ counted t (f i)
    → u ≡ counted t₀ (joined f (i + 1))
one_more_lem f i t₀ e h = rw (joined_more, counted_append, ← e) h

pub one_result : (g : List ℕ) (k : ℕ) (t₀ : List ℕ) {t u : List ℕ} {w : ℕ} → t ≡ counted t₀ (results g k) → w ≡ result_at g k
    → u ≡ counted t (w ∷ []) → u ≡ counted t₀ (results g (k + 1))
one_result g k t₀ e ew h = one_more_lem (λ j. result_at g j ∷ []) k t₀ e (rw (← ew) h)

pub once_read_is : (g : List ℕ) (w : ℕ) {t u : List ℕ} → w < 8192
    → t ≡ counted (replicate 8192 0) (joined (λ i. node_reads (node_at g i)) (node_count g))
    → u ≡ counted t (results g (result_count g)) → eqb (get_or u w 0) 1 ≡ once_read g w
unfolding reads
once_read_is g w h e f =
    let all = joined (λ i. node_reads (node_at g i)) (node_count g) in
    rw (f, e, ← counted_append (replicate 8192 0) all (results g (result_count g))) (counted_once _ 8192 w h)
