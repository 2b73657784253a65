-- A stage fires.
--
--   stage                     different nodes that are all ready fire in any order of them, and their end is the pointwise update
--
-- Idea: the first node fires; the others stay ready with their effects, so they are a stage from there. What the first has taken, given or left
-- no other touches, since readers and writers are single and a taken wire is full where a given one is empty.
-- Assumes nothing.
use Rattle.std.specs.Prelude.{◌≡◌, refl, ◌≢◌, true, List, [], ◌∷◌, ◌++◌, ℕ, ◌+◌, ◌*◌, ◌≤◌, length}
use Rattle.std.proofs.Common.{sym, ap, ◌∙◌, subst, inl, inr, arith}
use Rattle.std.proofs.Math.Option.{Option, some}
use Rattle.step.specs.Kinds.{Input, Output}
use Rattle.step.specs.Firing.{Effect, takes, gives}
use Rattle.step.specs.Locality.{Local}
use Rattle.state.specs.State.{record_place, record_at, stored, length_stored}
use Rattle.state.specs.Net.{Net, effect_at, stores, fire}
use Rattle.confluence.specs.Orders.{fires, fires_none, fires_on, history_none, history_on}
use Rattle.confluence.specs.Wired.{Wired, fired, other_stays, taken_not_given}
use Rattle.confluence.specs.Histories.{puts, put_by, put_at, history_of, puts_given, puts_nothing}
use Rattle.confluence.specs.Update.{wire_at, taken_after, given_after, still_after, left_after, own_after}
use Rattle.confluence.specs.Stage.{Among, Once, Aside, Staged}

module _ (N : Net) (local : (i : ℕ) → Local (N.node i)) (wired : Wired N) where
  nothing_staged : (s : List ℕ) → Staged N [] s s
  nothing_staged s =
      record {
        same_length = refl;
        taken = λ i e m. absurd m;
        given = λ i e m. absurd m;
        left = λ i e m. absurd m;
        still = λ w below aside. refl;
        unput = λ w n. history_none (fire N) (put_at N) s w;
        others = λ i n. refl;
      }

  -- one more node before a stage
  module _ (i : ℕ) (nodes s t : List ℕ) (e : Effect) (fresh : Among i nodes → ⊥) (ready : effect_at N i s ≡ some e)
      (all : (j : ℕ) → Among j nodes → (f : Effect) × (effect_at N j s ≡ some f))
      (long : 2 * N.wires ≤ length s) (own : record_place N.wires i + 4 ≤ length s)
      (rest : Staged N nodes (stored (stores N i e) s) t) where
    abbrev mid : List ℕ
    mid = stored (stores N i e) s

    apart : (j : ℕ) → Among j nodes → i ≢ j
    apart j m h = fresh (subst (λ (x : ℕ). Among x nodes) (sym h) m)

    -- the others do there what they do here
    same_effect : (j : ℕ) (f : Effect) → Among j nodes → effect_at N j s ≡ some f → effect_at N j mid ≡ some f
    same_effect j f m q = other_stays N local wired i j s e f (apart j m) ready q

    back : (j : ℕ) (f : Effect) → Among j nodes → effect_at N j mid ≡ some f → effect_at N j s ≡ some f
    back j f m q =
        let a = all j m in
        let b : effect_at N j mid ≡ some a.0 = same_effect j a.0 m a.1 in
        let c : effect_at N j s ≡ some a.0 = a.1 in
        cc

    effect_is : (d : Effect) → effect_at N i s ≡ some d → e ≡ d
    effect_is d q = cc

    -- what this node touches, the others leave alone
    aside_taken : (k : Input) (w : ℕ) → N.input i k ≡ some w → takes e k ≡ true → Aside N nodes mid w
    aside_taken k w a b j f m q =
        record {
          not_taken = λ l c u. apart j m (wired.one_reader i j k l w a c).0;
          not_given = λ l x c g. taken_not_given N local wired i j s e f ready (back j f m q) k l w x a b c g;
        }

    aside_given : (k : Output) (w x : ℕ) → N.output i k ≡ some w → gives e k ≡ some x → Aside N nodes mid w
    aside_given k w x a g j f m q =
        record {
          not_taken = λ l c u. taken_not_given N local wired j i s f e (back j f m q) ready l k w x c u a g;
          not_given = λ l y c h. apart j m (wired.one_writer i j k l w a c).0;
        }

    history_is : (w : ℕ) → history_of N (i ∷ nodes) s w ≡ puts N i e w ++ history_of N nodes mid w
    history_is w =
        history_on (fire N) (put_at N) i nodes s mid w (fired N i s e ready) ∙ ap (λ (o : Option Effect). put_by N i o w ++ history_of N nodes mid w) ready

    pub one_more_lem : Staged N (i ∷ nodes) s t
    one_more_lem =
        record {
          same_length = rest.same_length ∙ length_stored (stores N i e) s;
          taken = taken_by_lem;
          given = given_by;
          left = left_by_lem;
          still = λ w below aside. rest.still w below (λ j f m q. aside j f (inr m) (back j f m q))
              ∙ still_after N local wired i s e ready w below (aside i e (inl refl) ready);
          unput = λ w n. history_is w ∙ rw (puts_nothing N i e w (λ k x. n i e (inl refl) ready k x)) (rest.unput w (λ j f m q. n j f (inr m) (back j f m q)));
          others = λ j n. rest.others j (λ m. n (inr m)) ∙ own_after N local wired i s e ready j (λ h. n (inl h));
        }
      where
        taken_by_lem : (j : ℕ) (f : Effect) → Among j (i ∷ nodes) → effect_at N j s ≡ some f → (k : Input) (w : ℕ) → N.input j k ≡ some w → takes f k ≡ true
            → wire_at t w ≡ (0, 0)
        taken_by_lem j f (inr m) q k w a b = rest.taken j f m (same_effect j f m q) k w a b
        taken_by_lem j f (inl h) q k w a b =
            let d = effect_is f (ap (λ (x : ℕ). effect_at N x s) (sym h) ∙ q) in
            let a' : N.input i k ≡ some w = ap (λ (x : ℕ). N.input x k) (sym h) ∙ a in
            let b' : takes e k ≡ true = ap (λ (x : Effect). takes x k) d ∙ b in
            rest.still w (wired.input_below_lem i k w a') (aside_taken k w a' b') ∙ taken_after N local wired i s e ready long k w a' b'

        given_by : (j : ℕ) (f : Effect) → Among j (i ∷ nodes) → effect_at N j s ≡ some f → (k : Output) (w x : ℕ) → N.output j k ≡ some w → gives f k ≡ some x
            → (wire_at t w ≡ (1, x)) × (history_of N (i ∷ nodes) s w ≡ x ∷ [])
        given_by j f (inr m) q k w x a b =
            let r = rest.given j f m (same_effect j f m q) k w x a b in
            (r.0, history_is w ∙ rw (puts_nothing N i e w (λ l y c g. apart j m (wired.one_writer i j l k w c a).0)) r.1)
        given_by j f (inl h) q k w x a b =
            let d = effect_is f (ap (λ (x : ℕ). effect_at N x s) (sym h) ∙ q) in
            let a' : N.output i k ≡ some w = ap (λ (x : ℕ). N.output x k) (sym h) ∙ a in
            let b' : gives e k ≡ some x = ap (λ (x : Effect). gives x k) d ∙ b in (
              rest.still w (wired.output_below i k w a') (aside_given k w x a' b') ∙ given_after N local wired i s e ready long k w x a' b',
              history_is w ∙ rw (puts_given N wired i e k w x a' b', rest.unput w (λ j f m q. (aside_given k w x a' b' j f m q).not_given)),
            )

        left_by_lem : (j : ℕ) (f : Effect) → Among j (i ∷ nodes) → effect_at N j s ≡ some f → record_at N.wires t j ≡ f.next
        left_by_lem j f (inr m) q = rest.left j f m (same_effect j f m q)
        left_by_lem j f (inl h) q =
            let d = effect_is f (ap (λ (x : ℕ). effect_at N x s) (sym h) ∙ q) in
            ap (λ (x : ℕ). record_at N.wires t x) h ∙ rest.others i fresh ∙ left_after N local wired i s e ready own ∙ ap (λ (x : Effect). x.next) d

  -- Every node's record stands in the state.
  pub stage : (nodes s : List ℕ) → Once nodes → 2 * N.wires ≤ length s
      → ((i : ℕ) → Among i nodes → ((e : Effect) × (effect_at N i s ≡ some e)) × (record_place N.wires i + 4 ≤ length s))
      → (t : List ℕ) × (fires (fire N) nodes s ≡ some t) × Staged N nodes s t
  stage [] s once long ready = (s, fires_none (fire N) s, nothing_staged s)
  stage (i ∷ nodes) s once long ready =
      let x = ready i (inl refl) in
      let e = x.0.0 in
      let mid : List ℕ = stored (stores N i e) s in
      let same : length mid ≡ length s = length_stored (stores N i e) s in
      let go = stage nodes mid once.1 (omega arith)
      (λ j m. let y = ready j (inr m) in ((y.0.0, other_stays N local wired i j s e y.0.0 (λ h. once.0 (subst (λ (x : ℕ). Among x nodes) (sym h) m)) x.0.1 y.0.1), omega arith)) in
      (go.0, fires_on (fire N) i nodes s mid (fired N i s e x.0.1) ∙ go.1, one_more_lem i nodes s go.0 e once.0 x.0.1 (λ j m. (ready j (inr m)).0) long x.1 go.2)
