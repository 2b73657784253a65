-- How the operands that name a value get their wires, one after the other, and what is known when all have theirs. Assumes nothing.
use Prim.Native.Nat.{ℕ, suc, ◌+◌, ◌-◌, ◌*◌, ◌/◌, ◌≤◌, ◌<◌}
use mathlib.Core.Path.{◌≡◌, refl, sym, ap, ap₂, ◌∙◌, subst, subst₂}
use mathlib.Core.Logic.{◌≢◌, ◌⊎◌, inl, inr}
use mathlib.Core.Bool.{Bool, true, false}
use mathlib.Core.List.{List}
use native.Mathlib.Omega.{arith}
use native.Mathlib.Decide.{ℕ_discrete, dec_lt}
use lib.ListN.{length, get_or, set, length-set}
use lib.Seq.{get_or-set_same, get_or-set_other}
use Rattle.table.specs.Rows.{kind_at, size, at_most_three}
use Rattle.table.specs.Scan.{reads}
use Rattle.table.specs.Bodies.{operand}
use Rattle.structure.specs.Structure.{Structure, right_table_has_structure}
use Rattle.lowered.specs.Sources.{carried}
use Rattle.lowered.specs.Lower.{carried_into}
use Rattle.laid.specs.Listed.{no_both}
use Rattle.laid.specs.Bases.{copy_place}
use Rattle.laid.specs.Wired.{value_number}
use Rattle.laid.specs.Scanned.{Walks, walked_is_carried, carried_is_walked, reads_body_or_rim}
use Rattle.carrying.specs.Kept.{Passing, OnTheWay, IsUse, UseOrNone, Uses, home_from, Counted}
use Rattle.carrying.specs.Homes.{home_from_bases}
use Rattle.laying.specs.Entering.{RightCopy, Sound, Resolved, Carries}
use Rattle.laid.specs.Those
use Rattle.laying.specs.Using.{Counting, UseAt, UseRight, UseResolved, UsingRight, Using, UsesRight, UsesResolved, ValuesRight, Values}

place_after_lem : (t : List ℕ) (L v : ℕ) → carried t L v ≡ true → copy_place t L (suc v) ≡ suc (copy_place t L v)
unfolding copy_place
place_after_lem t L v h = Those.one_more_lem (carried t L) v h

place_same : (t : List ℕ) (L v : ℕ) → carried t L v ≡ false → copy_place t L (suc v) ≡ copy_place t L v
unfolding copy_place
place_same t L v h = Those.no_more (carried t L) v h

all_places : (t : List ℕ) (L : ℕ) → copy_place t L (size t) ≡ length (carried_into t L)
unfolding copy_place carried_into
all_places t L = refl

module _ (t : List ℕ) (n : ℕ) (P : Passing t n) where
  abbrev S : Structure t
  S = right_table_has_structure t P.right

  third : (r j p : ℕ) → IsUse t r j → p ≡ 3 * r + j → p / 3 ≡ r
  third r j p u e = let a = at_most_three (kind_at t r) in let b = u.1 in omega arith

  -- ---- one operand
  module _ (v p : ℕ) (U : UseAt t v p) where
    pub row_is : p / 3 ≡ U.row
    row_is = third U.row U.place p U.is U.at

    pub value_below : v < n
    value_below =
        let b = (S.operands U.row U.place U.is.0 U.is.1).before in
        let e = U.names in
        let r = P.rows in
        let l = U.is.0 in
        omega arith

    pub is_value : kind_at t v ≤ 6
    is_value = subst (λ (x : ℕ). kind_at t x ≤ 6) U.names (S.operands U.row U.place U.is.0 U.is.1).is_value

    pub row_below_lem : p / 3 < n
    row_below_lem = let e = row_is in let r = P.rows in let l = U.is.0 in omega arith

    pub place_below : p < 1536
    place_below = let a = at_most_three (kind_at t U.row) in let b = U.is.1 in let e = U.at in let l = U.is.0 in let f = S.few in omega arith

    module _ (b : ℕ) (eb : b ≡ reads t (p / 3)) where
      body_is : b ≡ reads t U.row
      body_is = eb ∙ ap (reads t) row_is

      pub way : OnTheWay t v b
      way =
          subst₂ (OnTheWay t) U.names (sym body_is)
          (record { around = (S.operands U.row U.place U.is.0 U.is.1).at_home; body = reads_body_or_rim t S U.row U.is.0 })

      pub carried_on_the_way : Carries t v b
      carried_on_the_way L w =
          subst (λ (x : ℕ). carried t L x ≡ true) U.names
          (walked_is_carried t S U.row U.place L U.is.0 U.is.1 (subst₂ (λ (x c : ℕ). Walks t x L c) (sym U.names) body_is w))

      pub use_resolved : (nodes wires lasts rows at counts' lasts' rows' : List ℕ) (own w : ℕ) → length at ≡ 1536 → own ≡ home_from t wires v → Resolved t v b nodes wires own lasts rows counts' lasts' rows' w
          → UseResolved t v p nodes wires lasts rows at counts' lasts' rows' (set at p w)
      use_resolved nodes wires lasts rows at counts' lasts' rows' own w long e R =
          record {
            next = R.next;
            kept = R.kept;
            passed = λ r j L u q z. R.passed L (subst (Walks t v L) (sym (same r j u q)) z);
            long = R.long;
            at_long = length-set at p w ∙ long;
            others = λ i z. get_or-set_other at p i w 0 z;
            right = λ B. right (R.right B (e ∙ home_from_bases t nodes wires v B S (let r = P.rows in let l = value_below in omega arith) is_value));
          }
        where
          same : (r j : ℕ) → IsUse t r j → p ≡ 3 * r + j → b ≡ reads t r
          same r j u q = eb ∙ ap (reads t) (third r j p u q)

          right : Sound t v b lasts rows lasts' rows' w → UseRight t v p lasts rows lasts' rows' (set at p w)
          right s =
              record {
                stays = s.stays;
                copies = s.copies;
                value = λ r j u d q. get_or-set_same at p w 0 (let z = place_below in omega arith) ∙ s.value ∙ ap₂ (value_number t) (sym d) (same r j u q);
              }

  -- ---- the operands of one value
  module _ (nodes wires heads links : List ℕ) (K : Uses t (3 * n) heads links) (v : ℕ) (lv : v < n) where
    in_reach : (r j : ℕ) → IsUse t r j → 3 * r + j < 3 * n
    in_reach r j u = let a = at_most_three (kind_at t r) in let b = u.1 in let l = u.0 in let r = P.rows in omega arith

    pub first_use : (c : ℕ) (counts lasts rows at : List ℕ) → c ≡ get_or heads v 0 → Counting t v counts lasts → length rows ≡ 28672 → length at ≡ 1536 → Using t v c nodes wires rows at counts lasts rows at
    first_use c counts lasts rows at e C long at_long =
        record {
          place = subst (UseOrNone t v) (sym e) (K.head v (let r = P.rows in omega arith));
          next = record {
            counts_long = C.counts_long;
            lasts_long = C.lasts_long;
            low = λ L. (let l = C.low L in omega arith);
            there = λ L l k z. (let y = C.low L in absurd (omega arith));
            away = λ L l k z. C.count L l k;
          };
          passed = λ r j L u d l z. absurd (none r j u d l);
          long = long;
          at_long = at_long;
          others = λ r j u d. refl;
          right = λ B. record { stays = λ i r. r; copies = λ L l k z. (let y = C.low L in absurd (omega arith)); value = λ r j u d l. absurd (none r j u d l) };
        }
      where
        none : (r j : ℕ) → IsUse t r j → operand t r j ≡ v → c ≤ 3 * r + j → ⊥
        none r j u d l = let h = K.head_last r j u (in_reach r j u) in let q = ap (λ (x : ℕ). get_or heads x 0) d in omega arith

    -- from the operand at place c - 1 to the one before it that names v
    module _ (c : ℕ) (rows₀ at₀ counts lasts rows at : List ℕ) (G : Using t v c nodes wires rows₀ at₀ counts lasts rows at) (d : c ≢ 0) where
      found : UseOrNone t v c → UseAt t v (c - 1)
      found (inl e) = absurd (d e)
      found (inr u) = let z = u.2 in record { row = u.0; place = u.1; at = omega arith; is = u.3; names = u.4 }

      pub use_at : UseAt t v (c - 1)
      use_at = found G.place

      pub link_falls : get_or links (c - 1) 0 < c
      link_falls =
          let U = use_at in
          let e = U.at in
          let b = K.link_below U.row U.place U.is (in_reach U.row U.place U.is) in
          let q = ap (λ (x : ℕ). get_or links x 0) e in
          omega arith

      pub one_more_lem : (counts' lasts' rows' at' : List ℕ) → UseResolved t v (c - 1) nodes wires lasts rows at counts' lasts' rows' at' → Using t v (get_or links (c - 1) 0) nodes wires rows₀ at₀ counts' lasts' rows' at'
      one_more_lem counts' lasts' rows' at' R =
          record {
            place = next_place use_at;
            next = R.next;
            passed = λ r j L u e l z. elim (sides r j u e l) [
              | inl q ↦ R.kept L (G.passed r j L u e q z)
              | inr q ↦ R.passed r j L u q z
            ];
            long = R.long;
            at_long = R.at_long;
            others = λ r j u e. R.others (3 * r + j) (apart r j u e) ∙ G.others r j u e;
            right = λ B. right (G.right B) (R.right B);
          }
        where
          next_place : UseAt t v (c - 1) → UseOrNone t v (get_or links (c - 1) 0)
          next_place U =
              subst (λ (x : ℕ). UseOrNone t v (get_or links x 0)) (sym U.at)
              (subst (λ (x : ℕ). UseOrNone t x (get_or links (3 * U.row + U.place) 0)) U.names (K.link U.row U.place U.is (in_reach U.row U.place U.is)))

          sides : (r j : ℕ) → IsUse t r j → operand t r j ≡ v → get_or links (c - 1) 0 ≤ 3 * r + j → (c ≤ 3 * r + j) ⊎ (c - 1 ≡ 3 * r + j)
          sides r j u e l = go use_at (ℕ_discrete (c - 1) (3 * r + j))
            where
              before : UseAt t v (c - 1) → c - 1 ≢ 3 * r + j → c ≤ 3 * r + j
              before U y =
                  elim (dec_lt (3 * r + j) (c - 1)) [
                    | yes x ↦ (let f = U.at in
                        let h = K.link_last U.row U.place r j U.is u (in_reach U.row U.place U.is) (e ∙ sym U.names) (omega arith) in
                        let q = ap (λ (x : ℕ). get_or links x 0) f in
                        absurd (omega arith))
                    | no x ↦ (let z = d in omega arith)
                  ]

              go : UseAt t v (c - 1) → Dec (c - 1 ≡ 3 * r + j) → (c ≤ 3 * r + j) ⊎ (c - 1 ≡ 3 * r + j)
              go U (yes y) = inr y
              go U (no y) = inl (before U y)

          apart : (r j : ℕ) → IsUse t r j → operand t r j ≢ v → 3 * r + j ≢ c - 1
          apart r j u e q =
              let U = use_at in
              let a = at_most_three (kind_at t r) in
              let b = at_most_three (kind_at t U.row) in
              let x = u.1 in
              let y = U.is.1 in
              let f = U.at in
              let er : r ≡ U.row = omega arith in
              let ej : j ≡ U.place = omega arith in
              e (ap₂ (operand t) er ej ∙ U.names)

          right : UsingRight t v c rows₀ lasts rows at → UseRight t v (c - 1) lasts rows lasts' rows' at' → UsingRight t v (get_or links (c - 1) 0) rows₀ lasts' rows' at'
          right g s =
              record {
                stays = λ i r. s.stays i (g.stays i r);
                copies = s.copies g.copies;
                value = λ r j u e l. elim (sides r j u e l) [
                  | inl q ↦ R.others (3 * r + j) (λ z. (let y = d in omega arith)) ∙ g.value r j u e q
                  | inr q ↦ ap (λ (x : ℕ). get_or at' x 0) (sym q) ∙ s.value r j u e q
                ];
              }

    -- all of them
    pub all_used : (c : ℕ) (rows₀ at₀ counts lasts rows at : List ℕ) → c ≡ 0 → Using t v c nodes wires rows₀ at₀ counts lasts rows at → UsesResolved t v nodes wires rows₀ at₀ counts lasts rows at
    all_used c rows₀ at₀ counts lasts rows at e G =
        record {
          next = record {
            counts_long = G.next.counts_long;
            lasts_long = G.next.lasts_long;
            low = G.next.low;
            count = λ L l k. counted L l k (carried t L v) refl;
          };
          long = G.long;
          at_long = G.at_long;
          others = G.others;
          right = λ B. (let g = G.right B in record { stays = g.stays; copies = λ L l k h. g.copies L l k (entered L l k h); value = λ r j u d. g.value r j u d (omega arith) });
        }
      where
        entered : (L : ℕ) → L < size t → kind_at t L ≡ 4 → carried t L v ≡ true → get_or lasts L 0 ≡ suc v
        entered L l k h =
            let w = carried_is_walked t S L v l k h in
            G.passed w.0 w.1 L (w.2, w.3) w.4 (omega arith) w.5

        counted : (L : ℕ) → L < size t → kind_at t L ≡ 4 → (b : Bool) → carried t L v ≡ b → get_or counts L 0 ≡ copy_place t L (suc v)
        counted L l k true h = (G.next.there L l k (entered L l k h)).1 ∙ sym (place_after_lem t L v h)
        counted L l k false h = G.next.away L l k (λ z. no_both (carried t L v) (G.next.there L l k z).0 h) ∙ sym (place_same t L v h)

  -- ---- all values
  pub no_values : (nodes wires counts lasts rows at : List ℕ) → Counting t 0 counts lasts → length rows ≡ 28672 → length at ≡ 1536 → Values t 0 nodes wires counts lasts rows at
  no_values nodes wires counts lasts rows at C long at_long =
      record { next = C; long = long; at_long = at_long; right = λ B. record { copies = λ L u l k h c. absurd (omega arith); value = λ r j u h. absurd (omega arith) } }

  pub one_value : (v : ℕ) (nodes wires counts lasts rows at counts' lasts' rows' at' : List ℕ) → Values t v nodes wires counts lasts rows at → UsesResolved t v nodes wires rows at counts' lasts' rows' at'
      → Values t (v + 1) nodes wires counts' lasts' rows' at'
  one_value v nodes wires counts lasts rows at counts' lasts' rows' at' W R =
      subst (λ (x : ℕ). Values t x nodes wires counts' lasts' rows' at') (let z : suc v ≡ v + 1 = omega arith in z)
      (record { next = R.next; long = R.long; at_long = R.at_long; right = λ B. right (W.right B) (R.right B) })
    where
      right : ValuesRight t v rows at → UsesRight t v rows rows' at' → ValuesRight t (suc v) rows' at'
      right a b =
          record {
            copies = λ L u l k h c. elim (ℕ_discrete u v) [
              | yes y ↦ subst (λ (x : ℕ). RightCopy t x rows' L) (sym y) (b.copies L l k (subst (λ (x : ℕ). carried t L x ≡ true) y c))
              | no y ↦ (let q = a.copies L u l k (omega arith) c in record { split = b.stays _ q.split; invariant = b.stays _ q.invariant })
            ];
            value = λ r j u h. elim (ℕ_discrete (operand t r j) v) [
              | yes y ↦ b.value r j u y
              | no y ↦ R.others r j u y ∙ a.value r j u (omega arith)
            ];
          }

  pub all_values : (v : ℕ) (nodes wires counts lasts rows at : List ℕ) → v ≤ n → n ≤ v → Values t v nodes wires counts lasts rows at → Values t n nodes wires counts lasts rows at
  all_values v nodes wires counts lasts rows at a b W = subst (λ (x : ℕ). Values t x nodes wires counts lasts rows at) (let z : v ≡ n = omega arith in z) W

  -- each loop has counted what it carries
  pub counted : (counts lasts : List ℕ) → Counting t n counts lasts → Counted t counts
  counted counts lasts C = record { long = C.counts_long; count = λ L l k. C.count L l k ∙ ap (copy_place t L) P.rows ∙ all_places t L }
