-- How a value is entered into one loop, and from there on: the copy that is there, the copy that is made, the way out to its home.
-- Assumes nothing.
use Prim.Native.Nat.{ℕ, suc, ◌+◌, ◌*◌, ◌≤◌, ◌<◌}
use mathlib.Core.Path.{◌≡◌, refl, sym, ap, ◌∙◌, subst}
use mathlib.Core.Logic.{◌≢◌, ◌⊎◌, inl, inr}
use mathlib.Core.Bool.{true}
use mathlib.Core.List.{List, [], ◌∷◌}
use native.Mathlib.Omega.{arith}
use native.Mathlib.Decide.{ℕ_discrete}
use borrow.Author.Tests.{eq-eqb, ne_eqb}
use lib.ListN.{length, get_or, set, length-set}
use lib.Seq.{sets, length-sets, get_or-set_same, get_or-set_other}
use Rattle.step.specs.Kinds.{SPLIT, INVARIANT}
use Rattle.graph.specs.Graph.{absent}
use Rattle.table.specs.Rows.{size, sort_of}
use Rattle.table.specs.Scan.{body_of, reads, home}
use Rattle.structure.specs.Structure.{Structure}
use Rattle.lowered.specs.Roles.{copy_split, copy_invariant}
use Rattle.lowered.specs.Sources.{carried}
use Rattle.lowered.specs.Lower.{carried_into}
use Rattle.laid.specs.Lists.{in_range}
use Rattle.laid.specs.Bases.{node_base, wire_base, copy_place, those_at}
use Rattle.laid.specs.Wired.{home_number, value_number}
use Rattle.written.specs.Places.{copy_split_place, copy_invariant_place, copy_split_node, copy_invariant_node}
use Rattle.laid.specs.Scanned.{Walks, here, further, walk_stops}
use Rattle.carrying.specs.Kept.{Passing, Bases, OnTheWay}
use Rattle.carrying.specs.Way.{is_loop}
use Rattle.laying.specs.Entering.{Room, copy_rows, Entering, RightCopy, Sound, Entered, Resolved, Takes, Carries}
use Rattle.laying.proofs.Putting.{Put, laid}

value_at_home : (t : List ℕ) (v b : ℕ) → home t v ≡ b → value_number t v b ≡ home_number t v
unfolding value_number
value_at_home t v b e = rw (eq-eqb (home t v) b e)

value_abroad : (t : List ℕ) (v b : ℕ) → home t v ≢ b → value_number t v b ≡ wire_base t b + (5 + (3 * copy_place t b v + 2))
unfolding value_number
value_abroad t v b e = rw (ne_eqb (home t v) b e)

place_below : (t : List ℕ) (v b : ℕ) → Takes t v b → copy_place t b v < length (carried_into t b)
unfolding carried_into copy_place
place_below t v b T = in_range (carried_into t b) (copy_place t b v) v (those_at (carried t b) (size t) v T.value T.carries)

module _ (t nodes wires : List ℕ) (R : Room t nodes wires) (v b : ℕ) (T : Takes t v b) where
  -- ---- room
  pub row_room : (counts lasts : List ℕ) (i place : ℕ) → Entering t v counts lasts → get_or lasts b 0 ≢ suc v → place ≡ get_or counts b 0 → i ≡ get_or nodes b 0 → i + (5 + 2 * place) ≤ 4096
  row_room counts lasts i place E n p q =
      let r = R.node b T.loop T.is_for_lem in
      let l = place_below t v b T in
      let c = E.away b T.loop T.is_for_lem n in
      omega arith

  pub place_small : (counts lasts : List ℕ) (place : ℕ) → Entering t v counts lasts → place ≡ get_or counts b 0 → place ≤ 4096
  place_small counts lasts place E p =
      let r = R.node b T.loop T.is_for_lem in
      let l = place_below t v b T in
      elim (ℕ_discrete (get_or lasts b 0) (suc v)) [
        | yes e ↦ (let c = (E.there b T.loop T.is_for_lem e).1 in omega arith)
        | no e ↦ (let c = E.away b T.loop T.is_for_lem e in omega arith)
      ]

  -- ---- the copy is there
  pub entered_there : (counts lasts rows : List ℕ) (outer w place : ℕ) → Entering t v counts lasts → length rows ≡ 28672 → w ≡ get_or wires b 0 → place ≡ get_or counts b 0 → get_or lasts b 0 ≡ suc v
      → Entered t v b nodes wires outer lasts rows counts lasts rows (w + 4 + 3 * place)
  entered_there counts lasts rows outer w place E long p q e =
      record {
        next = E;
        kept = λ L z. z;
        here = e;
        long = long;
        right = λ B o. record { value = number B; stays = λ i z. z; copies = λ C. C };
      }
    where
      number : Bases t nodes wires → w + 4 + 3 * place ≡ value_number t v b
      number B =
          let c = (E.there b T.loop T.is_for_lem e).1 in
          let z = B.wire b T.loop in
          (let y : w + 4 + 3 * place ≡ wire_base t b + (5 + (3 * copy_place t b v + 2)) = omega arith in y) ∙ sym (value_abroad t v b T.abroad)

  -- ---- the copy is made
  module _ (S : Structure t) (counts lasts rows new : List ℕ) (outer i w place sort : ℕ) (E : Entering t v counts lasts) (long : length rows ≡ 28672)
      (ei : i ≡ get_or nodes b 0) (ew : w ≡ get_or wires b 0) (ep : place ≡ get_or counts b 0) (fresh : get_or lasts b 0 ≢ suc v) (es : sort ≡ sort_of t v)
      (e : new ≡ copy_rows rows i w place sort outer) where
    few : b < 512
    few = let f = S.few in let l = T.loop in omega arith

    place_is : place ≡ copy_place t b v
    place_is = ep ∙ E.away b T.loop T.is_for_lem fresh

    last_here : get_or (set lasts b (v + 1)) b 0 ≡ suc v
    last_here = let f = few in let l = E.lasts_long in get_or-set_same lasts b (v + 1) 0 (omega arith) ∙ (let z : v + 1 ≡ suc v = omega arith in z)

    last_else : (L : ℕ) → L ≢ b → get_or (set lasts b (v + 1)) L 0 ≡ get_or lasts L 0
    last_else L z = get_or-set_other lasts b L (v + 1) 0 z

    still : (L : ℕ) → get_or lasts L 0 ≡ suc v → get_or (set lasts b (v + 1)) L 0 ≡ suc v
    still L z = elim (ℕ_discrete L b) [ yes y ↦ ap (λ (k : ℕ). get_or (set lasts b (v + 1)) k 0) y ∙ last_here | no y ↦ last_else L y ∙ z ]

    entering : Entering t v (set counts b (place + 1)) (set lasts b (v + 1))
    entering =
        record {
          counts_long = length-set counts b (place + 1) ∙ E.counts_long;
          lasts_long = length-set lasts b (v + 1) ∙ E.lasts_long;
          low = λ L. elim (ℕ_discrete L b) [
            | yes y ↦ (let z : get_or (set lasts b (v + 1)) L 0 ≡ suc v = ap (λ (k : ℕ). get_or (set lasts b (v + 1)) k 0) y ∙ last_here in omega arith)
            | no y ↦ (let z = last_else L y in let l = E.low L in omega arith)
          ];
          there = λ L l k z. elim (ℕ_discrete L b) [
            | yes y ↦ subst (λ (M : ℕ). (carried t M v ≡ true) × (get_or (set counts b (place + 1)) M 0 ≡ suc (copy_place t M v))) (sym y) (T.carries, count_here)
            | no y ↦ (let o = E.there L l k (sym (last_else L y) ∙ z) in (o.0, get_or-set_other counts b L (place + 1) 0 y ∙ o.1))
          ];
          away = λ L l k z. elim (ℕ_discrete L b) [
            | yes y ↦ absurd (z (ap (λ (k : ℕ). get_or (set lasts b (v + 1)) k 0) y ∙ last_here))
            | no y ↦ get_or-set_other counts b L (place + 1) 0 y ∙ E.away L l k (λ x. z (last_else L y ∙ x))
          ];
        }
      where
        count_here : get_or (set counts b (place + 1)) b 0 ≡ suc (copy_place t b v)
        count_here = let f = few in let l = E.counts_long in let q = place_is in get_or-set_same counts b (place + 1) 0 (omega arith) ∙ (let z : place + 1 ≡ suc (copy_place t b v) = omega arith in z)

    abbrev half : List ℕ
    half = sets rows (7 * (i + 3 + 2 * place)) (4 ∷ 0 ∷ sort ∷ (w + 4) ∷ outer ∷ absent ∷ (w + 5 + 3 * place) ∷ [])

    fits : i + (5 + 2 * place) ≤ 4096
    fits = row_room counts lasts i place E fresh ep ei

    split_put : Bases t nodes wires → outer ≡ value_number t v (body_of t b) → Put t rows half (node_base t b + (3 + 2 * copy_place t b v))
    split_put B o =
        let bn = B.node b T.loop in
        let bw = B.wire b T.loop in
        let q = place_is in
        let f = fits in
        laid t rows half (i + 3 + 2 * place) (node_base t b + (3 + 2 * copy_place t b v)) (copy_split b v) SPLIT 0 0 sort (sort_of t v) (w + 4) (wire_base t b + 4) outer (value_number t v (reads t b)) absent absent (w + 5 + 3 * place) (wire_base t b + (5 + 3 * copy_place t b v))
        long (omega arith) refl (omega arith) (copy_split_place t b v T.loop T.is_for_lem T.value T.carries) (copy_split_node t S b v T.loop T.is_for_lem T.value T.carries)
        refl es (omega arith) (o ∙ ap (value_number t v) (sym (S.reads_body b (let k = T.is_for_lem in λ z. omega arith)))) refl (omega arith)

    invariant_put : Bases t nodes wires → length half ≡ 28672 → Put t half new (node_base t b + (4 + 2 * copy_place t b v))
    invariant_put B l =
        let bn = B.node b T.loop in
        let bw = B.wire b T.loop in
        let q = place_is in
        let f = fits in
        laid t half new (i + 4 + 2 * place) (node_base t b + (4 + 2 * copy_place t b v)) (copy_invariant b v) INVARIANT 0 0 sort (sort_of t v) (w + 3) (wire_base t b + 3) (w + 5 + 3 * place) (wire_base t b + (5 + 3 * copy_place t b v)) absent absent (w + 7 + 3 * place) (wire_base t b + (7 + 3 * copy_place t b v))
        l (omega arith) e (omega arith) (copy_invariant_place t b v T.loop T.is_for_lem T.value T.carries) (copy_invariant_node t S b v T.loop T.is_for_lem T.value T.carries)
        refl es (omega arith) (omega arith) refl (omega arith)

    sound : Bases t nodes wires → outer ≡ value_number t v (body_of t b) → Sound t v b lasts rows (set lasts b (v + 1)) new (w + 7 + 3 * place)
    sound B o =
        let P = split_put B o in
        let Q = invariant_put B P.long in
        record {
          value = (let bw = B.wire b T.loop in let q = place_is in let y : w + 7 + 3 * place ≡ wire_base t b + (5 + (3 * copy_place t b v + 2)) = omega arith in y) ∙ sym (value_abroad t v b T.abroad);
          stays = λ j r. Q.stays j (P.stays j r);
          copies = λ C L l k z. elim (ℕ_discrete L b) [
            | yes y ↦ subst (RightCopy t v new) (sym y) (record { split = Q.stays _ P.row; invariant = Q.row })
            | no y ↦ (let c = C L l k (sym (last_else L y) ∙ z) in record { split = Q.stays _ (P.stays _ c.split); invariant = Q.stays _ (P.stays _ c.invariant) })
          ];
        }

    pub entered_new : Entered t v b nodes wires outer lasts rows (set counts b (place + 1)) (set lasts b (v + 1)) new (w + 7 + 3 * place)
    entered_new = record { next = entering; kept = still; here = last_here; long = new_long; right = sound }
      where
        new_long : length new ≡ 28672
        new_long = ap (λ (x : List ℕ). length x) e ∙ length-sets half (7 * (i + 4 + 2 * place)) (3 ∷ 0 ∷ sort ∷ (w + 3) ∷ (w + 5 + 3 * place) ∷ absent ∷ (w + 7 + 3 * place) ∷ [])
            ∙ length-sets rows (7 * (i + 3 + 2 * place)) (4 ∷ 0 ∷ sort ∷ (w + 4) ∷ outer ∷ absent ∷ (w + 5 + 3 * place) ∷ []) ∙ long

-- ---- the way out
module _ (t : List ℕ) (n : ℕ) (p : Passing t n) (v h b : ℕ) (eh : h ≡ home t v) (d : b ≢ h) (way : OnTheWay t v b) (C : Carries t v b) (lv : v < n) where
  abroad : home t v ≢ b
  abroad z = d (sym z ∙ sym eh)

  pub takes : Takes t v b
  takes =
      let l = is_loop t n p v h b eh d way in
      let r = p.rows in
      record { loop = l.0; is_for_lem = l.1; carries = C b (here abroad); value = omega arith; abroad = abroad }

  pub carries_on : (x : ℕ) → x ≡ body_of t b → Carries t v x
  carries_on x e L w = C L (further abroad (subst (Walks t v L) e w))

module _ (t nodes wires : List ℕ) (v h b own : ℕ) (eh : h ≡ home t v) where
  pub at_home : (counts lasts rows : List ℕ) → b ≡ h → Entering t v counts lasts → length rows ≡ 28672 → Resolved t v b nodes wires own lasts rows counts lasts rows own
  at_home counts lasts rows e E long =
      record {
        next = E;
        kept = λ L z. z;
        passed = λ L w. absurd (walk_stops t v L b (sym (e ∙ eh)) w);
        long = long;
        right = λ B o. record { value = o ∙ sym (value_at_home t v b (sym (e ∙ eh))); stays = λ i r. r; copies = λ C. C };
      }

  pub resolved_on : (x outer w : ℕ) (lasts rows counts₁ lasts₁ rows₁ counts₂ lasts₂ rows₂ : List ℕ) → x ≡ body_of t b
      → Resolved t v x nodes wires own lasts rows counts₁ lasts₁ rows₁ outer → Entered t v b nodes wires outer lasts₁ rows₁ counts₂ lasts₂ rows₂ w
      → Resolved t v b nodes wires own lasts rows counts₂ lasts₂ rows₂ w
  resolved_on x outer w lasts rows counts₁ lasts₁ rows₁ counts₂ lasts₂ rows₂ e R E =
      record {
        next = E.next;
        kept = λ L z. E.kept L (R.kept L z);
        passed = λ L z. pass L z;
        long = E.long;
        right = λ B o. both (R.right B o) (E.right B ((R.right B o).value ∙ ap (value_number t v) e));
      }
    where
      split : (L c : ℕ) → Walks t v L c → (L ≡ c) ⊎ Walks t v L (body_of t c)
      split L c (here q) = inl refl
      split L c (further q z) = inr z

      pass : (L : ℕ) → Walks t v L b → get_or lasts₂ L 0 ≡ suc v
      pass L z = elim (split L b z) [ inl q ↦ ap (λ (k : ℕ). get_or lasts₂ k 0) q ∙ E.here | inr y ↦ E.kept L (R.passed L (subst (Walks t v L) (sym e) y)) ]

      both : Sound t v x lasts rows lasts₁ rows₁ outer → Sound t v b lasts₁ rows₁ lasts₂ rows₂ w → Sound t v b lasts rows lasts₂ rows₂ w
      both P Q = record { value = Q.value; stays = λ i r. Q.stays i (P.stays i r); copies = λ K. Q.copies (P.copies K) }
