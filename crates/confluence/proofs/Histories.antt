-- Any order for a net.
--
--   net_diamond               two ready nodes may fire in either order, with the same words on each wire
--   net_rests_alike           so any order of a wired net rests alike
--
-- Assumes nothing.
use Rattle.std.proofs.Math.Path.{◌≡◌}
use Rattle.std.specs.Prelude.{◌≢◌, ℕ}
use Rattle.std.proofs.Common.{◌∙◌}
use Rattle.std.proofs.Math.Option.{some}
use mathlib.Core.List.{List, ◌++◌}
use Rattle.step.specs.Firing.{Effect}
use Rattle.step.specs.Locality.{Local}
use Rattle.state.specs.Net.{Net, effect_at, fire}
use Rattle.confluence.specs.Orders.{fires, Rests, Alike, Diamond, orders_rest_alike}
use Rattle.confluence.specs.Wired.{Wired, effect_of, ready_nodes_commute}
use Rattle.confluence.specs.Histories.{put_at, puts_in_either_order}

abbrev pub Always : List ℕ → Type 0
Always s = Unit {0}

module _ (N : Net) (local : (i : ℕ) → Local (N.node i)) (wired : Wired N) where
  pub net_diamond : Diamond (fire N) (put_at N) Always
  net_diamond =
      record {
        stays_good = λ i s a good f. tt;
        corner = λ i j s a b good n f g.
            let c = ready_nodes_commute N local wired i j s a b n f g in
            let x = effect_of N i s a f in
            let y = effect_of N j s b g in
            (c.corner, c.second, c.first, λ w. words i j s a b x.0 y.0 n x.1 y.1 (c.same_second ∙ y.1) (c.same_first ∙ x.1) w);
      }
    where
      words : (i j : ℕ) (s a b : List ℕ) (e f : Effect) → i ≢ j → effect_at N i s ≡ some e → effect_at N j s ≡ some f → effect_at N j a ≡ some f → effect_at N i b ≡ some e
          → (w : ℕ) → put_at N i s w ++ put_at N j a w ≡ put_at N j s w ++ put_at N i b w
      words i j s a b e f n p q q' p' w = rw (p, q, q', p') (puts_in_either_order N wired i j e f n w)

  pub net_rests_alike : (order : List ℕ) (s t : List ℕ) → fires (fire N) order s ≡ some t → Rests (fire N) t
      → (other : List ℕ) (u : List ℕ) → fires (fire N) other s ≡ some u → Alike (fire N) (put_at N) order s t other u
  net_rests_alike order s t = orders_rest_alike (fire N) (put_at N) Always net_diamond order s t tt
