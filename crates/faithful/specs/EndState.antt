-- The state in which a graph's results hold these words and nothing else stands, as one list of words.
--
--   held_on, end_state        for each wire 1 and its word if it is a result's, else 0 0; then four zeros for each node
--   whole_state               a state that is so at each place is that list
--
-- Assumes nothing.
use Rattle.std.specs.Prelude.{◌≡◌, refl, Bool, true, false, cond, ◌≢◌, List, [], ◌∷◌, ◌++◌, eqb, length}
use Rattle.std.proofs.Math.Path.{sym, ap}
use Rattle.std.proofs.Common.{ap₂, ◌∙◌, subst, inl, inr, eqb-true, eq-eqb, get_or-append-add}
use Rattle.std.proofs.Math.Option.{none, some}
use Prim.Native.Nat.{ℕ, zero, suc, ◌+◌, ◌*◌, ◌-◌, ◌/◌, ◌%◌, ◌≤◌, ◌<◌}
use native.Mathlib.Omega.{arith}
use Rattle.std.proofs.Math.Decide.{dec_lt}
use Rattle.std.proofs.Math.ListN.{get_or, get_elem?, replicate, length-append, length-replicate, get_or-replicate, get_or-append}
use Rattle.step.specs.Machines.{rest}
use Rattle.step.specs.declared.Record.{Record}
use Rattle.graph.specs.Below.{joined, joined_at}
use Rattle.graph.specs.Graph.{node_count, wire_count, result_count, result_at, results}
use Rattle.state.specs.State.{record_at}
use Rattle.state.specs.Legal.{state_length}
use Rattle.lowered.specs.Lists.{none_some, below_or_last, elem_left, elem_right, in_range}
use Rattle.uses.specs.Flat.{Holds}

-- what stands on wire w where the results on the wires rs hold the words xs, in order
abbrev pub held_on : List ℕ → List ℕ → ℕ → List ℕ
held_on [] xs w = 0 ∷ 0 ∷ []
held_on (r ∷ rs) [] w = 0 ∷ 0 ∷ []
held_on (r ∷ rs) (x ∷ xs) w = cond (eqb r w) (1 ∷ x ∷ []) (held_on rs xs w)

unfoldable pub end_state : List ℕ → List ℕ → List ℕ
end_state g words = joined (held_on (results g (result_count g)) words) (wire_count g) ++ replicate (4 * node_count g) 0

-- ---- lists by their places

same_words : (xs ys : List ℕ) → length xs ≡ length ys → ((k : ℕ) → k < length xs → get_or xs k 0 ≡ get_or ys k 0) → xs ≡ ys
same_words [] [] e h = refl
same_words [] (y ∷ ys) e h = absurd (omega arith)
same_words (x ∷ xs) [] e h = absurd (omega arith)
same_words (x ∷ xs) (y ∷ ys) e h = ap₂ (λ (a : ℕ) (l : List ℕ). a ∷ l) (h 0 (omega arith)) (same_words xs ys (omega arith) (λ k l. h (suc k) (omega arith)))

past : (xs ys : List ℕ) (n k : ℕ) → length xs ≡ n → n ≤ k → get_or (xs ++ ys) k 0 ≡ get_or ys (k - n) 0
past xs ys n k e l = let p : k ≡ length xs + (k - n) = omega arith in ap (λ (i : ℕ). get_or (xs ++ ys) i 0) p ∙ get_or-append-add xs ys (k - n) 0

module _ (f : ℕ → List ℕ) (c : ℕ) (long : (i : ℕ) → length (f i) ≡ c) where
  joined_long : (n : ℕ) → length (joined f n) ≡ c * n
  unfolding joined
  joined_long zero = omega arith
  joined_long (suc n) = let a = length-append (joined f n) (f n) in let b = joined_long n in let d = long n in omega arith

  joined_place : (n i p : ℕ) → i < n → p < c → get_or (joined f n) (c * i + p) 0 ≡ get_or (f i) p 0
  joined_place n i p l m = let d = long i in ap (λ (j : ℕ). get_or (joined f n) (j + p) 0) (sym (joined_long i)) ∙ joined_at f n i p l (omega arith)

-- ---- the results' wires

results_long : (g : List ℕ) (n : ℕ) → length (results g n) ≡ n
results_long g n = let a = joined_long (λ k. result_at g k ∷ []) 1 (λ k. refl) n in omega arith

results_at : (g : List ℕ) (n k : ℕ) → k < n → get_elem? (results g n) k ≡ some (result_at g k)
unfolding joined
results_at g zero k l = absurd (omega arith)
results_at g (suc n) k l =
    elim (below_or_last k n l) [
      | inl m ↦ elem_left (results g n) (result_at g n ∷ []) k (result_at g k) (results_at g n k m)
      | inr e ↦
          let p : k ≡ length (results g n) + 0 = let a = results_long g n in omega arith in
          ap (get_elem? (results g n ++ (result_at g n ∷ []))) p ∙ elem_right (results g n) (result_at g n ∷ []) 0 ∙ ap (λ (j : ℕ). some (result_at g j)) (sym e)
    ]

-- ---- a wire

held_long : (rs xs : List ℕ) (w : ℕ) → length (held_on rs xs w) ≡ 2
held_long [] xs w = refl
held_long (r ∷ rs) [] w = refl
held_long (r ∷ rs) (x ∷ xs) w = go (eqb r w) (held_long rs xs w)
  where
    go : (b : Bool) → length (held_on rs xs w) ≡ 2 → length (cond b (1 ∷ x ∷ []) (held_on rs xs w)) ≡ 2
    go true h = refl
    go false h = h

-- a wire holds what is said of it: its result's word, or nothing where it is no result's
held_here : (u rs xs : List ℕ) (w : ℕ) → length xs ≡ length rs → ((k x : ℕ) → get_elem? rs k ≡ some w → get_elem? xs k ≡ some x → Holds u w (some x))
    → (((k : ℕ) → get_elem? rs k ≢ some w) → Holds u w none) → (get_or (held_on rs xs w) 0 0 ≡ get_or u (2 * w) 0) × (get_or (held_on rs xs w) 1 0 ≡ get_or u (2 * w + 1) 0)
held_here u [] xs w e a b = let h = b (λ k q. none_some w q) in (sym h.0, sym h.1)
held_here u (r ∷ rs) [] w e a b = absurd (omega arith)
held_here u (r ∷ rs) (x ∷ xs) w e a b = go (eqb r w) refl (λ q. held_here u rs xs w (omega arith) (λ k y. a (suc k) y) (λ n. b (λ k. later q k n)))
  where
    later : eqb r w ≡ false → (k : ℕ) → ((j : ℕ) → get_elem? rs j ≢ some w) → get_elem? (r ∷ rs) k ≢ some w
    later q zero n h = let d : r ≡ w = cc in let z = eq-eqb r w d in let z : ◌≡◌ {A = ℕ} 0 1 = cc in omega arith
    later q (suc k) n h = n k h

    go : (c : Bool) → eqb r w ≡ c → (eqb r w ≡ false → (get_or (held_on rs xs w) 0 0 ≡ get_or u (2 * w) 0) × (get_or (held_on rs xs w) 1 0 ≡ get_or u (2 * w + 1) 0))
        → (get_or (cond c (1 ∷ x ∷ []) (held_on rs xs w)) 0 0 ≡ get_or u (2 * w) 0) × (get_or (cond c (1 ∷ x ∷ []) (held_on rs xs w)) 1 0 ≡ get_or u (2 * w + 1) 0)
    go true q k = let h = a 0 x (ap some (eqb-true r w q)) refl in (sym h.0, sym h.1)
    go false q k = k q

-- ---- the whole

module _ (g words u : List ℕ) (long : length u ≡ state_length g) (one_each : length words ≡ result_count g)
    (hold : (k x : ℕ) → get_elem? words k ≡ some x → Holds u (result_at g k) (some x))
    (empty : (w : ℕ) → w < wire_count g → ((k : ℕ) → k < result_count g → w ≢ result_at g k) → Holds u w none)
    (zeros : (i : ℕ) → i < node_count g → record_at (wire_count g) u i ≡ rest) where
  abbrev wired : List ℕ
  wired = joined (held_on (results g (result_count g)) words) (wire_count g)

  wired_long : length wired ≡ 2 * wire_count g
  wired_long = joined_long (held_on (results g (result_count g)) words) 2 (held_long (results g (result_count g)) words) (wire_count g)

  wire_here : (w : ℕ) → w < wire_count g
      → (get_or (held_on (results g (result_count g)) words w) 0 0 ≡ get_or u (2 * w) 0) × (get_or (held_on (results g (result_count g)) words w) 1 0 ≡ get_or u (2 * w + 1) 0)
  wire_here w l =
      held_here u (results g (result_count g)) words w (one_each ∙ sym (results_long g (result_count g))) result (λ n. empty w l (λ k m e. n k (results_at g (result_count g) k m ∙ ap some (sym e))))
    where
      result : (k x : ℕ) → get_elem? (results g (result_count g)) k ≡ some w → get_elem? words k ≡ some x → Holds u w (some x)
      result k x h q =
          let m = in_range (results g (result_count g)) k w h in
          let n = results_long g (result_count g) in
          let a = results_at g (result_count g) k (omega arith) in
          let e : result_at g k ≡ w = cc in
          subst (λ (z : ℕ). Holds u z (some x)) e (hold k x q)

  on_wires : (k : ℕ) → k < 2 * wire_count g → get_or wired k 0 ≡ get_or u k 0
  on_wires k l = go (k % 2) refl
    where
      w : ℕ
      w = k / 2

      at : (p : ℕ) → p < 2 → k ≡ 2 * w + p → get_or wired k 0 ≡ get_or (held_on (results g (result_count g)) words w) p 0
      at p m e = ap (λ (j : ℕ). get_or wired j 0) e ∙ joined_place (held_on (results g (result_count g)) words) 2 (held_long (results g (result_count g)) words) (wire_count g) w p (omega arith) m

      go : (p : ℕ) → k % 2 ≡ p → get_or wired k 0 ≡ get_or u k 0
      go zero e = let q : k ≡ 2 * (k / 2) + 0 = omega arith in let q2 : k ≡ 2 * (k / 2) = omega arith in at 0 (omega arith) q ∙ (wire_here w (omega arith)).0 ∙ ap (λ (j : ℕ). get_or u j 0) (sym q2)
      go (suc zero) e = let q : k ≡ 2 * (k / 2) + 1 = omega arith in at 1 (omega arith) q ∙ (wire_here w (omega arith)).1 ∙ ap (λ (j : ℕ). get_or u j 0) (sym q)
      go (suc (suc p)) e = absurd (omega arith)

  on_records : (k : ℕ) → k < 4 * node_count g → get_or u (2 * wire_count g + k) 0 ≡ 0
  on_records k l = go (k % 4) refl
    where
      r : record_at (wire_count g) u (k / 4) ≡ rest
      r = zeros (k / 4) (omega arith)

      go : (p : ℕ) → k % 4 ≡ p → get_or u (2 * wire_count g + k) 0 ≡ 0
      go zero e = ap (λ (j : ℕ). get_or u j 0) (let q : 2 * wire_count g + k ≡ 2 * wire_count g + 4 * (k / 4) = omega arith in q) ∙ ap (λ (x : Record). x.phase) r
      go (suc zero) e = ap (λ (j : ℕ). get_or u j 0) (let q : 2 * wire_count g + k ≡ 2 * wire_count g + 4 * (k / 4) + 1 = omega arith in q) ∙ ap (λ (x : Record). x.r0) r
      go (suc (suc zero)) e = ap (λ (j : ℕ). get_or u j 0) (let q : 2 * wire_count g + k ≡ 2 * wire_count g + 4 * (k / 4) + 2 = omega arith in q) ∙ ap (λ (x : Record). x.r1) r
      go (suc (suc (suc zero))) e = ap (λ (j : ℕ). get_or u j 0) (let q : 2 * wire_count g + k ≡ 2 * wire_count g + 4 * (k / 4) + 3 = omega arith in q) ∙ ap (λ (x : Record). x.r2) r
      go (suc (suc (suc (suc p)))) e = absurd (omega arith)

  pub whole_state : u ≡ end_state g words
  unfolding end_state
  whole_state =
      let a = wired_long in
      let b = length-append wired (replicate (4 * node_count g) 0) in
      let c = length-replicate {A = ℕ} (4 * node_count g) 0 in
      let d = long in
      sym (same_words (wired ++ replicate (4 * node_count g) 0) u (omega arith) (λ k l. at k (omega arith)))
    where
      at : (k : ℕ) → k < 2 * wire_count g + 4 * node_count g → get_or (wired ++ replicate (4 * node_count g) 0) k 0 ≡ get_or u k 0
      at k l =
          let a = wired_long in
          elim (dec_lt k (2 * wire_count g)) [
            | yes m ↦ get_or-append wired (replicate (4 * node_count g) 0) 0 k (omega arith) ∙ on_wires k m
            | no m ↦
                past wired (replicate (4 * node_count g) 0) (2 * wire_count g) k a (omega arith) ∙ get_or-replicate (4 * node_count g) (k - 2 * wire_count g) 0 0 (omega arith)
                ∙ sym (on_records (k - 2 * wire_count g) (omega arith)) ∙ ap (λ (i : ℕ). get_or u i 0) (let q : 2 * wire_count g + (k - 2 * wire_count g) ≡ k = omega arith in q)
          ]
