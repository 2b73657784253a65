-- The ledger of every wire, proved.
--
--   wire_balances             the ledger of one firing
--   ledger                    the ledger of a list of firings
--
-- Assumes nothing.
use Rattle.std.proofs.Math.Path.{◌≡◌, sym, ap, ap₂}
use Rattle.std.specs.Prelude.{refl, true, ℕ, zero, suc, ◌*◌, ◌≤◌, ◌<◌, get_or, length}
use Rattle.std.proofs.Common.{◌∙◌, subst, arith}
use Rattle.std.proofs.Math.Option.{some}
use mathlib.Core.List.{List, [], ◌∷◌, ◌++◌, append-nil, append_assoc}
use Rattle.step.specs.Firing.{Effect}
use Rattle.step.specs.Locality.{Local}
use Rattle.graph.specs.Graph.{listed}
use Rattle.state.specs.State.{full_place, word_place, token, is_empty, stored, length_stored}
use Rattle.state.specs.Net.{Net, effect_at, stores, fire}
use Rattle.confluence.specs.Orders.{fires, fires_first, fires_end, history_on, history_none}
use Rattle.confluence.specs.Wired.{Wired, effect_of, given_empty, taken_not_given}
use Rattle.confluence.specs.Histories.{puts, put_at, history_of, puts_given, puts_nothing}
use Rattle.confluence.specs.Update.{Touch, takes_it, gives_it, leaves_it, touch, taken_after, given_after, still_after}
use Rattle.confluence.specs.Ledger.{stands, took, took_at, taken_of, took_nothing, took_taken}

-- what stands on a wire, from its two words
listed_pair : ℕ × ℕ → List ℕ
listed_pair x = listed (token x.0 x.1)

-- an empty wire holds nothing
empty_stands : (s : List ℕ) (w : ℕ) → is_empty (get_or s (full_place w) 0) ≡ true → stands s w ≡ []
empty_stands s w = go (get_or s (full_place w) 0)
  where
    go : (f : ℕ) → is_empty f ≡ true → listed (token f (get_or s (word_place w) 0)) ≡ []
    go zero h = refl
    go (suc f) h = let z : ◌≡◌ {A = ℕ} 0 1 = cc in absurd (omega arith)

module _ (N : Net) (local : (i : ℕ) → Local (N.node i)) (wired : Wired N) where
  pub wire_balances : (i : ℕ) (s : List ℕ) (e : Effect) → effect_at N i s ≡ some e → 2 * N.wires ≤ length s → (w : ℕ) → w < N.wires
      → stands s w ++ puts N i e w ≡ took N i s e w ++ stands (stored (stores N i e) s) w
  unfolding listed_pair
  wire_balances i s e ready long w below = go (touch N i e w)
    where
      go : Touch N i e w → stands s w ++ puts N i e w ≡ took N i s e w ++ stands (stored (stores N i e) s) w
      go (takes_it k a t) =
          ap₂ {C = List ℕ} (λ x y. x ++ y) (sym (took_taken N wired i s e k w a t))
          (puts_nothing N i e w (λ l x b g. taken_not_given N local wired i i s e e ready ready k l w x a t b g)
          ∙ sym (ap listed_pair (taken_after N local wired i s e ready long k w a t)))
      go (gives_it k x a g) =
          ap₂ {C = List ℕ} (λ x y. x ++ y) (empty_stands s w (given_empty N local wired i s e ready k w x a g)) (puts_given N wired i e k w x a g)
          ∙ sym (ap₂ {C = List ℕ} (λ x y. x ++ y) (took_nothing N i s e w (λ l b t. taken_not_given N local wired i i s e e ready ready l k w x b t a g))
          (ap listed_pair (given_after N local wired i s e ready long k w x a g)))
      go (leaves_it un) =
          ap (λ (l : List ℕ). stands s w ++ l) (puts_nothing N i e w un.not_given) ∙ append-nil (stands s w)
          ∙ sym (ap₂ {C = List ℕ} (λ x y. x ++ y) (took_nothing N i s e w un.not_taken) (ap listed_pair (still_after N local wired i s e ready w below un)))

  joined_up : (s p ps k ks a t : List ℕ) → s ++ p ≡ k ++ a → a ++ ps ≡ ks ++ t → s ++ (p ++ ps) ≡ (k ++ ks) ++ t
  joined_up s p ps k ks a t e h =
      sym (append_assoc s p ps) ∙ ap (λ (l : List ℕ). l ++ ps) e ∙ append_assoc k a ps ∙ ap (λ (l : List ℕ). k ++ l) h ∙ sym (append_assoc k ks t)

  pub ledger : (order : List ℕ) (s t : List ℕ) → fires (fire N) order s ≡ some t → 2 * N.wires ≤ length s → (w : ℕ) → w < N.wires
      → stands s w ++ history_of N order s w ≡ taken_of N order s w ++ stands t w
  ledger [] s t r long w below =
      rw (history_none (fire N) (put_at N) s w, history_none (fire N) (took_at N) s w) (append-nil (stands s w) ∙ ap (λ (x : List ℕ). stands x w) (fires_end (fire N) s t r))
  ledger (i ∷ order) s t r long w below =
      let x = fires_first (fire N) i order s t r in
      let y = effect_of N i s x.0 x.1 in
      let same : length x.0 ≡ length s = ap length (sym y.2) ∙ length_stored (stores N i y.0) s in
      let now : stands s w ++ put_at N i s w ≡ took_at N i s w ++ stands x.0 w
      = subst (λ (a : List ℕ). stands s w ++ put_at N i s w ≡ took_at N i s w ++ stands a w) y.2 (rw y.1 (wire_balances i s y.0 y.1 long w below)) in
      let then = ledger order x.0 t x.2 (omega arith) w below in
      rw (history_on (fire N) (put_at N) i order s x.0 w x.1, history_on (fire N) (took_at N) i order s x.0 w x.1)
      (joined_up (stands s w) (put_at N i s w) (history_of N order x.0 w) (took_at N i s w) (taken_of N order x.0 w) (stands x.0 w) (stands t w) now then)
