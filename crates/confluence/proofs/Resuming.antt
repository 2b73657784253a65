-- A run that was stopped is resumed: two runs in sequence against one with both allowances. For any net of n nodes.
--
--   resumed                   where the first has ended at a sweep's start, the second goes on as if it had not stopped
--   resumed_rests             wherever it has ended, if there is enough for the rest
--
-- Assumes nothing.
use Rattle.std.specs.Prelude.{◌≡◌, length}
use Rattle.std.proofs.Math.Path.{refl, ap}
use Rattle.std.proofs.Common.{sym, ap₂, ◌∙◌, subst, inl, inr, length-append}
use Rattle.std.proofs.Math.Option.{Option, none, some}
use mathlib.Core.List.{List, [], ◌∷◌, ◌++◌}
use Prim.Native.Nat.{ℕ, zero, suc, ◌+◌, ◌≤◌, ◌<◌}
use native.Mathlib.Omega.{arith}
use Rattle.state.specs.Net.{Net, fire}
use Rattle.state.specs.Run.{At, turned, turn, follow, sweep_from, sweep, sweeps, finish, run}
use Rattle.confluence.specs.Orders.{fires, fires_append, Rests, rest_ends, fires_end, Alike}
use Rattle.confluence.specs.Histories.{put_at}
use Rattle.confluence.specs.Runs.{from, run_made, Spends, last, again, Ends}
use Rattle.confluence.proofs.Runs.{no_more, follow_spends, sweep_spends, sweep_quiet, sweeping, run_spends, run_ends, ended}
use Rattle.confluence.specs.Resuming.{swept}

module _ (N : Net) where
  module _ (n : ℕ) where
    -- more sweeps than what is left, and one, change nothing
    sweeps_enough : (f g : ℕ) (p : At) → p.left < f → p.left < g → sweeps N f n p ≡ sweeps N g n p
    sweeps_enough zero g p a b = absurd (omega arith)
    sweeps_enough (suc f) zero p a b = absurd (omega arith)
    sweeps_enough (suc f) (suc g) p a b =
        elim (sweeping N n f p) [
          | last h e ↦ elim (sweeping N n g p) [ last k d ↦ e ∙ sym d | again k d ↦ absurd (omega arith) ]
          | again h e ↦ elim (sweeping N n g p) [
            | last k d ↦ absurd (omega arith)
            | again k d ↦ e ∙ sweeps_enough f g (sweep N n p) (omega arith) (omega arith) ∙ sym d
          ]
        ]

    finish_sweep : (p : At) → finish N n p ≡ finish N n (sweep N n p)
    unfolding finish
    finish_sweep p =
        elim (sweeping N n p.left p) [
          | last h e ↦ ap (λ (q : At). sweeps N (suc q.left) n q) (sym (sweep_quiet N n 0 p h).0)
          | again h e ↦ e ∙ sweeps_enough p.left (suc (sweep N n p).left) (sweep N n p) (omega arith) (omega arith)
        ]

    finish_swept : (k : ℕ) (p : At) → finish N n p ≡ finish N n (swept N n k p)
    unfolding swept
    finish_swept zero p = refl
    finish_swept (suc k) p = finish_sweep p ∙ finish_swept k (sweep N n p)

    swept_less : (k : ℕ) (p : At) → (swept N n k p).left ≤ p.left
    unfolding swept
    swept_less zero p = omega arith
    swept_less (suc k) p =
        let a = no_more N p (sweep N n p) (sweep_spends N n 0 p) in
        let b = swept_less k (sweep N n p) in
        omega arith

    finish_spent : (p : At) → p.left ≡ 0 → finish N n p ≡ p
    unfolding finish
    finish_spent p h = elim (sweeping N n p.left p) [ last k e ↦ e | again k e ↦ absurd (omega arith) ]

  -- the same place with b more
  abbrev more : ℕ → At → At
  more b p = from p.state (p.left + b)

  -- a walk that leaves b of its allowance makes no use of that b
  turn_more : (b i : ℕ) (p : At) → b ≤ (turn N i (more b p)).left → turn N i (more b p) ≡ more b (turn N i p)
  unfolding turn
  turn_more b i p h = go (fire N i p.state) p.left (p.left + b) refl h
    where
      go : (o : Option (List ℕ)) (l lb : ℕ) → lb ≡ l + b → b ≤ (turned o p.state lb).left → turned o p.state lb ≡ more b (turned o p.state l)
      go none l lb e h = ap (from p.state) e
      go (some a) zero zero e h = ap (from p.state) e
      go (some a) zero (suc lb) e h = absurd (omega arith)
      go (some a) (suc l) zero e h = absurd (omega arith)
      go (some a) (suc l) (suc lb) e h = ap (from a) (omega arith)

  follow_more : (b : ℕ) (order : List ℕ) (p : At) → b ≤ (follow N order (more b p)).left → follow N order (more b p) ≡ more b (follow N order p)
  unfolding follow
  follow_more b [] p h = refl
  follow_more b (i ∷ order) p h =
      let a = no_more N (turn N i (more b p)) (follow N order (turn N i (more b p))) (follow_spends N order (turn N i (more b p))) in
      let e = turn_more b i p (omega arith) in
      ap (follow N order) e ∙ follow_more b order (turn N i p) (subst (λ (q : At). b ≤ (follow N order q).left) e h)

  sweep_more : (b m i : ℕ) (p : At) → b ≤ (sweep_from N m i (more b p)).left → sweep_from N m i (more b p) ≡ more b (sweep_from N m i p)
  unfolding sweep_from
  sweep_more b zero i p h = refl
  sweep_more b (suc m) i p h =
      let a = no_more N (turn N i (more b p)) (sweep_from N m (i + 1) (turn N i (more b p))) (sweep_spends N m (i + 1) (turn N i (more b p))) in
      let e = turn_more b i p (omega arith) in
      ap (sweep_from N m (i + 1)) e ∙ sweep_more b m (i + 1) (turn N i p) (subst (λ (q : At). b ≤ (sweep_from N m (i + 1) q).left) e h)

  module _ (n : ℕ) where
    swept_more : (b k : ℕ) (p : At) → b ≤ (swept N n k (more b p)).left → swept N n k (more b p) ≡ more b (swept N n k p)
    unfolding swept
    swept_more b zero p h = refl
    swept_more b (suc k) p h =
        let a = swept_less n k (sweep N n (more b p)) in
        let e = sweep_more b n 0 p (omega arith) in
        ap (swept N n k) e ∙ swept_more b k (sweep N n p) (subst (λ (q : At). b ≤ (swept N n k q).left) e h)

    -- With the allowance a + b the list and k whole sweeps leave b, in the state t. Then a run with a alone stops there; and one with b, and no
    -- list, goes on from there as the run with a + b does.
    pub resumed : (order : List ℕ) (s t : List ℕ) (a b k : ℕ) → swept N n k (follow N order (from s (a + b))) ≡ from t b
        → (run N n order (from s a) ≡ from t 0) × (run N n order (from s (a + b)) ≡ run N n [] (from t b))
    unfolding run follow
    resumed order s t a b k h = (first, second)
      where
        p : At
        p = follow N order (from s a)

        lost : b ≤ (follow N order (from s (a + b))).left
        lost =
            let x = swept_less n k (follow N order (from s (a + b))) in
            let y : (swept N n k (follow N order (from s (a + b)))).left ≡ b = ap (λ (q : At). q.left) h in
            omega arith

        followed : follow N order (from s (a + b)) ≡ more b p
        followed = follow_more b order (from s a) lost

        whole : swept N n k (more b p) ≡ from t b
        whole = ap (swept N n k) (sym followed) ∙ h

        part : more b (swept N n k p) ≡ from t b
        part = sym (swept_more b k p (let y : (swept N n k (more b p)).left ≡ b = ap (λ (q : At). q.left) whole in omega arith)) ∙ whole

        here : swept N n k p ≡ from t 0
        here =
            let l : (swept N n k p).left + b ≡ b = ap (λ (q : At). q.left) part in
            ap₂ from (ap (λ (q : At). q.state) part) (let z : (swept N n k p).left ≡ 0 = omega arith in z)

        first : finish N n p ≡ from t 0
        first = finish_swept n k p ∙ ap (finish N n) here ∙ finish_spent n (from t 0) refl

        second : finish N n (follow N order (from s (a + b))) ≡ finish N n (follow N [] (from t b))
        second = finish_swept n k (follow N order (from s (a + b))) ∙ ap (finish N n) h

  module _ (n : ℕ) (beyond : (i : ℕ) (s : List ℕ) → n ≤ i → fire N i s ≡ none)
      (alike : (order : List ℕ) (s t : List ℕ) → fires (fire N) order s ≡ some t → Rests (fire N) t
      → (other : List ℕ) (u : List ℕ) → fires (fire N) other s ≡ some u → Alike (fire N) (put_at N) order s t other u) where
    -- Two runs in sequence, whatever their lists and wherever the first has stopped.
    pub resumed_rests : (order : List ℕ) (s t : List ℕ) → fires (fire N) order s ≡ some t → Rests (fire N) t
        → (list list' : List ℕ) (a b : ℕ) → length order ≤ a + b → (p q : At) → run N n list (from s a) ≡ p → run N n list' (from p.state b) ≡ q
        → (q.state ≡ t) × (length order + (p.left + q.left) ≡ a + b)
    resumed_rests order s t r h list list' a b enough p q first second =
        ended N n beyond alike order s t r h (made ++ more') (a + b) (from q.state (p.left + q.left)) enough both
        (ends (run_ends N n beyond list (from s a)) (run_ends N n beyond list' (from p.state b)))
      where
        made : List ℕ
        made = run_made N n list (from s a)

        more' : List ℕ
        more' = run_made N n list' (from p.state b)

        x : Spends N made (from s a) p
        x = subst (Spends N made (from s a)) first (run_spends N n list (from s a))

        y : Spends N more' (from p.state b) q
        y = subst (Spends N more' (from p.state b)) second (run_spends N n list' (from p.state b))

        both : Spends N (made ++ more') (from s (a + b)) (from q.state (p.left + q.left))
        both =
            let c = x.count in
            let d = y.count in
            let m = length-append made more' in
            record { ready = fires_append (fire N) made more' s p.state q.state x.ready y.ready; count = omega arith }

        -- what starts at rest stays
        stays : Rests (fire N) p.state → Rests (fire N) q.state
        stays k =
            let e = rest_ends (fire N) more' p.state q.state k y.ready in
            subst (Rests (fire N)) (fires_end (fire N) p.state q.state (subst (λ (l : List ℕ). fires (fire N) l p.state ≡ some q.state) e y.ready)) k

        ends : Ends N n beyond (run N n list (from s a)) → Ends N n beyond (run N n list' (from p.state b)) → Ends N n beyond (from q.state (p.left + q.left))
        ends u v = go (subst (Ends N n beyond) first u) (subst (Ends N n beyond) second v)
          where
            go : Ends N n beyond p → Ends N n beyond q → Ends N n beyond (from q.state (p.left + q.left))
            go (inl i) (inl j) = inl (omega arith)
            go (inl i) (inr j) = inr j
            go (inr i) j = inr (stays i)
