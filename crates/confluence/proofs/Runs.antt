-- A run is one of the orders: what its rule fires, and where it ends. For any net of n nodes.
--
--   run_spends                so it is with a run and the nodes that its rule fires
--   run_ends                  a run ends with nothing left or at rest
--   enough_rests              an allowance of as many firings as some order needs to rest is enough for any run
--
-- Assumes nothing.
use Rattle.std.specs.Prelude.{◌≡◌, ◌≢◌, ◌⊎◌, length}
use Rattle.std.proofs.Math.Path.{refl, ap, subst}
use Rattle.std.proofs.Common.{sym, ◌∙◌, eqb-true, length-append}
use Rattle.std.proofs.Math.Logic.{inl, inr}
use Rattle.std.proofs.Math.Bool.{Bool, true, false}
use Rattle.std.proofs.Math.Option.{Option, none, some}
use mathlib.Core.List.{List, [], ◌∷◌, ◌++◌}
use Prim.Native.Nat.{ℕ, zero, suc, ◌+◌, ◌≤◌, ◌<◌}
use native.Mathlib.Omega.{arith}
use Rattle.std.proofs.Math.Decide.{ℕ_discrete, dec_lt}
use Rattle.std.proofs.lemmas.Bool.{eqb-false}
use Rattle.std.proofs.Math.Dec.{eqb}
use Rattle.state.specs.Net.{Net, fire}
use Rattle.state.specs.Run.{At, turned, turn, follow, sweep_from, sweep, sweeps, finish, run}
use Rattle.confluence.specs.Orders.{fires, fires_none, fires_on, fires_append, Rests, Alike, as_many_is_all}
use Rattle.confluence.specs.Histories.{put_at}
use Rattle.confluence.specs.Runs.{from, turn_made, follow_made, sweep_made, sweeps_made, run_made, Spends, Sweeping, last, again, Ends}

module _ (N : Net) where
  pub spends_nothing : (p : At) → Spends N [] p p
  spends_nothing p = record { ready = fires_none (fire N) p.state; count = omega arith }

  pub spends_then : (made more : List ℕ) (p q r : At) → Spends N made p q → Spends N more q r → Spends N (made ++ more) p r
  spends_then made more p q r x y =
      let a = x.count in
      let b = y.count in
      let c = length-append made more in
      record { ready = fires_append (fire N) made more p.state q.state r.state x.ready y.ready; count = omega arith }

  pub no_more : {made : List ℕ} (p q : At) → Spends N made p q → q.left ≤ p.left
  no_more p q x = let a = x.count in omega arith

  -- a node's turn: it fires, and one is spent; or all stays
  pub turn_spends : (i : ℕ) (p : At) → Spends N (turn_made (fire N i p.state) p.left i) p (turn N i p)
  unfolding turn
  turn_spends i p = go (fire N i p.state) refl p.left
    where
      go : (o : Option (List ℕ)) → fire N i p.state ≡ o → (l : ℕ) → Spends N (turn_made o l i) (from p.state l) (turned o p.state l)
      go none e l = spends_nothing (from p.state l)
      go (some a) e zero = spends_nothing (from p.state zero)
      go (some a) e (suc l) = record { ready = fires_on (fire N) i [] p.state a e ∙ fires_none (fire N) a; count = omega arith }

  pub follow_spends : (order : List ℕ) (p : At) → Spends N (follow_made N order p) p (follow N order p)
  unfolding follow follow_made
  follow_spends [] p = spends_nothing p
  follow_spends (i ∷ order) p =
      spends_then (turn_made (fire N i p.state) p.left i) (follow_made N order (turn N i p)) p (turn N i p) (follow N order (turn N i p))
      (turn_spends i p) (follow_spends order (turn N i p))

  pub sweep_spends : (m i : ℕ) (p : At) → Spends N (sweep_made N m i p) p (sweep_from N m i p)
  unfolding sweep_from sweep_made
  sweep_spends zero i p = spends_nothing p
  sweep_spends (suc m) i p =
      spends_then (turn_made (fire N i p.state) p.left i) (sweep_made N m (i + 1) (turn N i p)) p (turn N i p) (sweep_from N m (i + 1) (turn N i p))
      (turn_spends i p) (sweep_spends m (i + 1) (turn N i p))

  -- a turn that spends nothing changes nothing, and its node was not ready or nothing was left
  turn_quiet : (i : ℕ) (p : At) → (turn N i p).left ≡ p.left → (turn N i p ≡ p) × ((p.left ≡ 0) ⊎ (fire N i p.state ≡ none))
  unfolding turn
  turn_quiet i p h = go (fire N i p.state) p.left h
    where
      go : (o : Option (List ℕ)) (l : ℕ) → (turned o p.state l).left ≡ l → (turned o p.state l ≡ from p.state l) × ((l ≡ 0) ⊎ (o ≡ none))
      go none l h = (refl, inr refl)
      go (some a) zero h = (refl, inl refl)
      go (some a) (suc l) h = absurd (omega arith)

  pub sweep_quiet : (m i : ℕ) (p : At) → (sweep_from N m i p).left ≡ p.left
      → (sweep_from N m i p ≡ p) × ((j : ℕ) → i ≤ j → j < i + m → (p.left ≡ 0) ⊎ (fire N j p.state ≡ none))
  unfolding sweep_from
  sweep_quiet zero i p h = (refl, λ j a b. absurd (omega arith))
  sweep_quiet (suc m) i p h =
      let a = no_more p (turn N i p) (turn_spends i p) in
      let b = no_more (turn N i p) (sweep_from N m (i + 1) (turn N i p)) (sweep_spends m (i + 1) (turn N i p)) in
      let first = turn_quiet i p (omega arith) in
      let rest = sweep_quiet m (i + 1) p (ap (λ (q : At). (sweep_from N m (i + 1) q).left) (sym first.0) ∙ h) in (
        ap (sweep_from N m (i + 1)) first.0 ∙ rest.0,
        λ j lo hi. elim (ℕ_discrete j i) [
          | yes e ↦ subst (λ (k : ℕ). (p.left ≡ 0) ⊎ (fire N k p.state ≡ none)) (sym e) first.1
          | no n ↦ rest.1 j (omega arith) (omega arith)
        ],
      )

  module _ (n : ℕ) where
    pub sweeping : (f : ℕ) (p : At) → Sweeping N n f p
    unfolding sweeps
    sweeping f p = go (eqb (sweep N n p).left p.left) refl
      where
        next : Bool → At
        next b = elim b [ true ↦ sweep N n p | false ↦ sweeps N f n (sweep N n p) ]

        go : (b : Bool) → eqb (sweep N n p).left p.left ≡ b → Sweeping N n f p
        go true e = let h = eqb-true (sweep N n p).left p.left e in last h (ap next e ∙ (sweep_quiet n 0 p h).0)
        go false e =
            let h = eqb-false (sweep N n p).left p.left e in
            let a = no_more p (sweep N n p) (sweep_spends n 0 p) in
            again (omega arith) (ap next e)

    sweeps_spends : (f : ℕ) (p : At) → Spends N (sweeps_made N f n p) p (sweeps N f n p)
    unfolding sweeps sweeps_made
    sweeps_spends zero p = spends_nothing p
    sweeps_spends (suc f) p = go (sweeps_spends f (sweep N n p)) (eqb (sweep N n p).left p.left) refl
      where
        go : Spends N (sweeps_made N f n (sweep N n p)) (sweep N n p) (sweeps N f n (sweep N n p)) → (b : Bool) → eqb (sweep N n p).left p.left ≡ b
            → Spends N (elim b [ true ↦ [] | false ↦ sweep_made N n 0 p ++ sweeps_made N f n (sweep N n p) ]) p
            (elim b [ true ↦ sweep N n p | false ↦ sweeps N f n (sweep N n p) ])
        go rest true e = subst (Spends N [] p) (sym (sweep_quiet n 0 p (eqb-true (sweep N n p).left p.left e)).0) (spends_nothing p)
        go rest false e =
            spends_then (sweep_made N n 0 p) (sweeps_made N f n (sweep N n p)) p (sweep N n p) (sweeps N f n (sweep N n p)) (sweep_spends n 0 p) rest

    pub run_spends : (order : List ℕ) (p : At) → Spends N (run_made N n order p) p (run N n order p)
    unfolding run finish run_made
    run_spends order p =
        spends_then (follow_made N order p) (sweeps_made N (suc (follow N order p).left) n (follow N order p)) p (follow N order p) (run N n order p)
        (follow_spends order p) (sweeps_spends (suc (follow N order p).left) (follow N order p))

  -- ---- where a run ends

  module _ (n : ℕ) (beyond : (i : ℕ) (s : List ℕ) → n ≤ i → fire N i s ≡ none) where
    quiet_ends : (p : At) → (sweep N n p).left ≡ p.left → Ends N n beyond p
    quiet_ends p h = go p.left refl
      where
        at : (i : ℕ) → p.left ≢ 0 → (p.left ≡ 0) ⊎ (fire N i p.state ≡ none) → fire N i p.state ≡ none
        at i n (inl z) = absurd (n z)
        at i n (inr e) = e

        go : (l : ℕ) → p.left ≡ l → Ends N n beyond p
        go zero e = inl e
        go (suc l) e =
            inr (λ i. elim (dec_lt i n) [
              | yes b ↦ at i (omega arith) ((sweep_quiet n 0 p h).1 i (omega arith) (omega arith))
              | no b ↦ beyond i p.state (omega arith)
            ])

    sweeps_end : (f : ℕ) (p : At) → p.left < f → Ends N n beyond (sweeps N f n p)
    sweeps_end zero p h = absurd (omega arith)
    sweeps_end (suc f) p h =
        elim (sweeping n f p) [
          | last k e ↦ subst (Ends N n beyond) (sym e) (quiet_ends p k)
          | again k e ↦ subst (Ends N n beyond) (sym e) (sweeps_end f (sweep N n p) (omega arith))
        ]

    pub run_ends : (order : List ℕ) (p : At) → Ends N n beyond (run N n order p)
    unfolding run finish
    run_ends order p = sweeps_end (suc (follow N order p).left) (follow N order p) (omega arith)

    -- ---- with any order resting alike

    module _ (alike : (order : List ℕ) (s t : List ℕ) → fires (fire N) order s ≡ some t → Rests (fire N) t
        → (other : List ℕ) (u : List ℕ) → fires (fire N) other s ≡ some u → Alike (fire N) (put_at N) order s t other u) where
      -- firings that end a run end at the rest of any order, if the allowance was enough for it
      pub ended : (order : List ℕ) (s t : List ℕ) → fires (fire N) order s ≡ some t → Rests (fire N) t → (made : List ℕ) (l : ℕ) (q : At) → length order ≤ l
          → Spends N made (from s l) q → Ends N n beyond q → (q.state ≡ t) × (length order + q.left ≡ l)
      ended order s t r h made l q enough x ends = go ends
        where
          same : Alike (fire N) (put_at N) order s t made q.state
          same = alike order s t r h made q.state x.ready

          go : Ends N n beyond q → (q.state ≡ t) × (length order + q.left ≡ l)
          go (inl z) =
              let c = x.count in
              let a = as_many_is_all (fire N) (put_at N) order s t made q.state same (omega arith) in
              let m = a.0 in
              (a.1, omega arith)
          go (inr z) = let c = x.count in let m = same.firings z in (same.end z, omega arith)

      pub enough_rests : (order : List ℕ) (s t : List ℕ) → fires (fire N) order s ≡ some t → Rests (fire N) t
          → (list : List ℕ) (allowance : ℕ) → length order ≤ allowance
          → ((run N n list (from s allowance)).state ≡ t) × (length order + (run N n list (from s allowance)).left ≡ allowance)
      enough_rests order s t r h list allowance enough =
          ended order s t r h (run_made N n list (from s allowance)) allowance (run N n list (from s allowance)) enough (run_spends n list (from s allowance)) (run_ends list (from s allowance))
