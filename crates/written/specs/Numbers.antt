-- Every word of a lowered table by number: what a program writes that has the nodes before forks and the sources of the results.
--
--   inputs_at, out_at          the sources that node i takes, that result i takes
--   use_count, free_from      how many uses a wire has; the first free wire when its turn comes
--   uses_counted              the uses of a wire: among the nodes' inputs, then among the results
--   stands_at                 the wire of a use, from its source and how many uses of it came before
--   input0_stands, input1_stands, input2_stands, result_stands
--   input_below_lem, out_below  sources are wires
--
-- Assumes nothing.
use Rattle.std.specs.Prelude.{ℕ, zero, suc, ◌+◌, ◌≤◌, ◌<◌, ◌≡◌, ◌≢◌, ◌⊎◌, Bool, eqb, length}
use Rattle.std.proofs.Math.Path.{refl, sym, ap, ap₂}
use Rattle.std.proofs.Common.{◌∙◌, subst, inl, inr, eq-eqb, ne_eqb}
use Rattle.std.proofs.Math.Bool.{cond}
use mathlib.Core.List.{List, [], ◌∷◌, ◌++◌, append_assoc, append-nil}
use Rattle.std.proofs.Math.Option.{Option, none, some}
use native.Mathlib.Omega.{arith}
use Rattle.std.proofs.Math.ListN.{get_elem?}
use Rattle.word.specs.Words.{flag}
use Rattle.step.specs.Kinds.{Input, in0, in1, in2}
use Rattle.graph.specs.Graph.{absent}
use Rattle.graph.specs.Below.{joined, total, times, times_append}
use Rattle.structure.specs.Structure.{Structure}
use Rattle.lowered.specs.Gathered.{each}
use Rattle.lowered.specs.Roles.{Role, Wire, Use, into, result}
use Rattle.lowered.specs.Sources.{source}
use Rattle.lowered.specs.Lower.{roles, wires, wire_number, taken, use_if, role_uses, out_rows, uses, plain_nodes, plain_wires, stands_by, stands_on, result_total}
use Rattle.laid.specs.Lists.{Among, there, among_left, among_right, has_elem, elem_left, in_range, none_some}
use Rattle.laid.specs.Indexed.{sum_of, each_append, joined_along, joined_same, total_along, total_same}
use Rattle.laid.specs.Made.{result_feed}
use Rattle.laid.specs.Legs.{standing}
use Rattle.laid.specs.Taken.{made, number_at, out_row}
use Rattle.laid.specs.Counts.{leg_at, source_number, use_wires, fork_sum, source_number_lem, stands_by_numbers}
use Rattle.laid.specs.Sourced.{standing_append}
use Rattle.written.specs.Plain.{number_or, input_number}

abbrev pub inputs_of : List ℕ → Option Role → List ℕ
inputs_of t none = []
inputs_of t (some n) = input_number t n in0 ∷ input_number t n in1 ∷ input_number t n in2 ∷ []

-- the sources of the three inputs of node i, X where there is none
abbrev pub inputs_at : List ℕ → ℕ → List ℕ
inputs_at t i = inputs_of t (get_elem? (roles t) i)

abbrev pub out_of : List ℕ → Option ℕ → List ℕ
out_of t none = []
out_of t (some q) = source_number t (result q) ∷ []

-- the source of result i
abbrev pub out_at : List ℕ → ℕ → List ℕ
out_at t i = out_of t (get_elem? (out_rows t) i)

abbrev pub use_count : List ℕ → ℕ → ℕ
use_count t w = times w (use_wires t)

abbrev pub free_from : List ℕ → ℕ → ℕ
free_from t w = plain_wires t + total (fork_sum t) w

-- the wire of the use of x before which j others came; X for no use
abbrev pub stands_at : List ℕ → ℕ → ℕ → ℕ
stands_at t x j = cond (eqb x absent) absent (leg_at x (free_from t x) (use_count t x) j)

-- ---- a list cut at a place
pub record Cut {A : Type 0} (xs : List A) (i : ℕ) (x : A) : Type 0 where
  pub before : List A
  pub behind : List A
  pub whole : xs ≡ before ++ (x ∷ behind)
  pub long : length before ≡ i

module _ {A : Type 0} where
  pub cut : (xs : List A) (i : ℕ) (x : A) → get_elem? xs i ≡ some x → Cut xs i x
  cut [] i x h = none_some x h
  cut (y ∷ xs) zero x h = let e : y ≡ x = cc in record { before = []; behind = xs; whole = ap (λ (z : A). z ∷ xs) e; long = refl }
  cut (y ∷ xs) (suc i) x h =
      let c = cut xs i x h in
      record { before = y ∷ c.before; behind = c.behind; whole = ap (λ (zs : List A). y ∷ zs) c.whole; long = ap suc c.long }

  pub in_front : (xs ys : List A) (j : ℕ) → j < length xs → get_elem? (xs ++ ys) j ≡ get_elem? xs j
  in_front xs ys j l = let e = has_elem xs j l in elem_left xs ys j e.0 e.1 ∙ sym e.1

  -- what the elements before a place give
  pub before_cut : (F : Option A → List ℕ) (xs : List A) (i : ℕ) (x : A) (c : Cut xs i x) → joined (λ j. F (get_elem? xs j)) i ≡ each (λ y. F (some y)) c.before
  before_cut F xs i x c =
      let n = c.long in
      joined_same (λ j. F (get_elem? xs j)) (λ j. F (get_elem? c.before j)) i
      (λ j l. ap F (ap (λ (zs : List A). get_elem? zs j) c.whole ∙ in_front c.before (x ∷ c.behind) j (omega arith)))
      ∙ ap (joined (λ j. F (get_elem? c.before j))) (sym c.long) ∙ joined_along F c.before

  pub total_before : (F : Option A → ℕ) (xs : List A) (i : ℕ) (x : A) (c : Cut xs i x) → total (λ j. F (get_elem? xs j)) i ≡ sum_of (λ y. F (some y)) c.before
  total_before F xs i x c =
      let n = c.long in
      total_same (λ j. F (get_elem? xs j)) (λ j. F (get_elem? c.before j)) i
      (λ j l. ap F (ap (λ (zs : List A). get_elem? zs j) c.whole ∙ in_front c.before (x ∷ c.behind) j (omega arith)))
      ∙ ap (total (λ j. F (get_elem? c.before j))) (sym c.long) ∙ total_along F c.before

-- ---- uses, counted
module _ (t : List ℕ) where
  one_input : (w : ℕ) → w ≢ absent → (u : Use) (o : Option Wire) → source t u ≡ o → times w (standing (source_number t) (taken o u)) ≡ flag (eqb w (number_or t o))
  unfolding times source_number
  one_input w n u none e = rw (ne_eqb w absent n)
  one_input w n u (some x) e = rw e (omega arith)

  input_counted : (w : ℕ) → w ≢ absent → (n : Role) (k : Input) → times w (standing (source_number t) (use_if t (into n k))) ≡ flag (eqb w (input_number t n k))
  unfolding input_number
  input_counted w h n k = one_input w h (into n k) (source t (into n k)) refl

  three : (w a b c : ℕ) → times w (a ∷ b ∷ c ∷ []) ≡ flag (eqb w a) + (flag (eqb w b) + flag (eqb w c))
  unfolding times
  three w a b c = omega arith

  abbrev numbers_of : List Use → List ℕ
  numbers_of us = standing (source_number t) us

  both : (w : ℕ) (a b : List Use) → times w (numbers_of (a ++ b)) ≡ times w (numbers_of a) + times w (numbers_of b)
  both w a b = ap (times w) (standing_append (source_number t) a b) ∙ times_append w (numbers_of a) (numbers_of b)

  role_counted : (w : ℕ) → w ≢ absent → (n : Role) → times w (numbers_of (role_uses t n)) ≡ times w (inputs_of t (some n))
  role_counted w h n =
      let a = input_counted w h n in0 in
      let b = input_counted w h n in1 in
      let c = input_counted w h n in2 in
      let d = both w (use_if t (into n in0)) (use_if t (into n in1) ++ use_if t (into n in2)) in
      let e = both w (use_if t (into n in1)) (use_if t (into n in2)) in
      let f = three w (input_number t n in0) (input_number t n in1) (input_number t n in2) in
      omega arith

  roles_counted : (w : ℕ) → w ≢ absent → (ns : List Role) → times w (numbers_of (each (role_uses t) ns)) ≡ times w (each (λ n. inputs_of t (some n)) ns)
  unfolding each
  roles_counted w h [] = refl
  roles_counted w h (n ∷ ns) =
      let a = role_counted w h n in
      let b = roles_counted w h ns in
      let c = both w (role_uses t n) (each (role_uses t) ns) in
      let d = times_append w (inputs_of t (some n)) (each (λ n. inputs_of t (some n)) ns) in
      omega arith

  abbrev Taken : ℕ → Type 0
  Taken q = (w : Wire) × (source t (result q) ≡ some w)

  out_numbers : (q : ℕ) → Taken q → numbers_of (use_if t (result q)) ≡ source_number t (result q) ∷ []
  out_numbers q h = ap (λ (o : Option Wire). numbers_of (taken o (result q))) h.1

  outs_numbers : (qs : List ℕ) → ((q : ℕ) → Among q qs → Taken q) → numbers_of (each (λ q. use_if t (result q)) qs) ≡ each (λ q. out_of t (some q)) qs
  unfolding each
  outs_numbers [] h = refl
  outs_numbers (q ∷ qs) h =
      standing_append (source_number t) (use_if t (result q)) (each (λ q. use_if t (result q)) qs)
      ∙ ap₂ {C = List ℕ} (λ a b. a ++ b) (out_numbers q (h q (inl refl))) (outs_numbers qs (λ p m. h p (inr m)))

module _ (t : List ℕ) (S : Structure t) where
  out_taken : (q : ℕ) → Among q (out_rows t) → Taken t q
  out_taken q h = let o = out_row t S q h in (_, result_feed t q o.1)

  pub uses_counted : (w : ℕ) → w ≢ absent → use_count t w ≡ times w (joined (inputs_at t) (plain_nodes t)) + times w (joined (out_at t) (result_total t))
  unfolding use_wires uses plain_nodes result_total
  uses_counted w h =
      both t w (each (role_uses t) (roles t)) (each (λ q. use_if t (result q)) (out_rows t))
      ∙ ap₂ (λ (a b : ℕ). a + b)
      (roles_counted t w h (roles t) ∙ ap (times w) (sym (joined_along (inputs_of t) (roles t))))
      (ap (times w) (outs_numbers t (out_rows t) out_taken ∙ sym (joined_along (out_of t) (out_rows t))))

  -- ---- sources are wires
  wire_low : (u : Use) → Among u (uses t) → source_number t u < plain_wires t
  unfolding plain_wires
  wire_low u m =
      let k = made t S u m in
      let e = source_number_lem t S u k.0 k.1 in
      let l = in_range (wires t) (wire_number t k.0) k.0 (number_at t S k.0 k.2) in
      omega arith

  -- ---- the uses cut at an input of node i
  module _ (i : ℕ) (n : Role) (h : get_elem? (roles t) i ≡ some n) where
    abbrev C : Cut (roles t) i n
    C = cut (roles t) i n h

    abbrev early : List Use
    early = each (role_uses t) C.before

    abbrev late : List Use
    late = each (role_uses t) C.behind ++ each (λ q. use_if t (result q)) (out_rows t)

    around : uses t ≡ early ++ (role_uses t n ++ late)
    unfolding uses each
    around =
        ap (λ (ns : List Role). each (role_uses t) ns ++ each (λ q. use_if t (result q)) (out_rows t)) C.whole
        ∙ ap (λ (us : List Use). us ++ each (λ q. use_if t (result q)) (out_rows t)) (each_append (role_uses t) C.before (n ∷ C.behind))
        ∙ append_assoc early (role_uses t n ++ each (role_uses t) C.behind) (each (λ q. use_if t (result q)) (out_rows t))
        ∙ ap (λ (us : List Use). early ++ us) (append_assoc (role_uses t n) (each (role_uses t) C.behind) (each (λ q. use_if t (result q)) (out_rows t)))

    early_counted : (w : ℕ) → w ≢ absent → times w (numbers_of t early) ≡ times w (joined (inputs_at t) i)
    early_counted w a = roles_counted t w a C.before ∙ ap (times w) (sym (before_cut (inputs_of t) (roles t) i n C))

    -- a use behind some uses of the same node, m of which have its source
    input_by : plain_wires t ≤ 8192 → (a b : List Use) (k : Input) (m : ℕ) (o : Option Wire) → source t (into n k) ≡ o → uses t ≡ (early ++ a) ++ (taken o (into n k) ++ b)
        → (input_number t n k ≢ absent → times (input_number t n k) (numbers_of t a) ≡ m)
        → stands_on t (into n k) ≡ stands_at t (input_number t n k) (times (input_number t n k) (joined (inputs_at t) i) + m)
    unfolding stands_on input_number
    input_by few a b k m none e u c =
        ap (stands_by t (into n k)) e
        ∙ sym (ap (λ (b : Bool). cond b absent (leg_at absent (free_from t absent) (use_count t absent) (times absent (joined (inputs_at t) i) + m))) (eq-eqb absent absent refl))
        ∙ ap (λ (o : Option Wire). stands_at t (number_or t o) (times (number_or t o) (joined (inputs_at t) i) + m)) (sym e)
    input_by few a b k m (some w) e u c =
        let q : source_number t (into n k) ≡ wire_number t w = source_number_lem t S (into n k) w e in
        let low : source_number t (into n k) < plain_wires t = wire_low (into n k) (subst (Among (into n k)) (sym u) (among_right (into n k) (early ++ a) (into n k ∷ b) (inl refl))) in
        let x : number_or t (source t (into n k)) ≡ source_number t (into n k) = ap (number_or t) e ∙ sym q in
        let real : source_number t (into n k) ≢ absent = λ z. omega arith in
        let count : times (source_number t (into n k)) (numbers_of t (early ++ a)) ≡ times (source_number t (into n k)) (joined (inputs_at t) i) + m
        = both t (source_number t (into n k)) early a
        ∙ ap₂ (λ (p q : ℕ). p + q) (early_counted (source_number t (into n k)) real) (subst (λ (z : ℕ). times z (numbers_of t a) ≡ m) x (c (λ z. real (sym x ∙ z)))) in
        stands_by_numbers t S (early ++ a) b (into n k) u
        ∙ ap (λ (j : ℕ). leg_at (source_number t (into n k)) (free_from t (source_number t (into n k))) (use_count t (source_number t (into n k))) j) count
        ∙ sym (ap (λ (b : Bool). cond b absent (leg_at (source_number t (into n k)) (free_from t (source_number t (into n k))) (use_count t (source_number t (into n k))) (times (source_number t (into n k)) (joined (inputs_at t) i) + m))) (ne_eqb (source_number t (into n k)) absent real))
        ∙ ap (λ (z : ℕ). stands_at t z (times z (joined (inputs_at t) i) + m)) (sym x)

    nil : (w : ℕ) → times w [] ≡ 0
    unfolding times
    nil w = refl

    one : (w a : ℕ) → times w (a ∷ []) ≡ flag (eqb w a)
    unfolding times
    one w a = omega arith

    two : (w a b : ℕ) → times w (a ∷ b ∷ []) ≡ flag (eqb w a) + flag (eqb w b)
    unfolding times
    two w a b = omega arith

    pub input0_stands : plain_wires t ≤ 8192 → stands_on t (into n in0) ≡ stands_at t (input_number t n in0) (times (input_number t n in0) (joined (inputs_at t) i))
    input0_stands few =
        let z : times (input_number t n in0) (joined (inputs_at t) i) + 0 ≡ times (input_number t n in0) (joined (inputs_at t) i) = omega arith in
        input_by few [] (use_if t (into n in1) ++ (use_if t (into n in2) ++ late)) in0 0 (source t (into n in0)) refl whole (λ h. nil (input_number t n in0))
        ∙ ap (stands_at t (input_number t n in0)) z
      where
        whole : uses t ≡ (early ++ []) ++ (use_if t (into n in0) ++ (use_if t (into n in1) ++ (use_if t (into n in2) ++ late)))
        whole =
            around
            ∙ ap₂ {C = List Use} (λ a b. a ++ b) (sym (append-nil early))
            (append_assoc (use_if t (into n in0)) (use_if t (into n in1) ++ use_if t (into n in2)) late
            ∙ ap (λ (us : List Use). use_if t (into n in0) ++ us) (append_assoc (use_if t (into n in1)) (use_if t (into n in2)) late))

    pub input1_stands : plain_wires t ≤ 8192
        → stands_on t (into n in1) ≡ stands_at t (input_number t n in1) (times (input_number t n in1) (joined (inputs_at t) i) + times (input_number t n in1) (input_number t n in0 ∷ []))
    input1_stands few =
        input_by few (use_if t (into n in0)) (use_if t (into n in2) ++ late) in1 _ (source t (into n in1)) refl whole
        (λ h. input_counted t (input_number t n in1) h n in0 ∙ sym (one (input_number t n in1) (input_number t n in0)))
      where
        whole : uses t ≡ (early ++ use_if t (into n in0)) ++ (use_if t (into n in1) ++ (use_if t (into n in2) ++ late))
        whole =
            around
            ∙ ap (λ (us : List Use). early ++ us)
            (append_assoc (use_if t (into n in0)) (use_if t (into n in1) ++ use_if t (into n in2)) late
            ∙ ap (λ (us : List Use). use_if t (into n in0) ++ us) (append_assoc (use_if t (into n in1)) (use_if t (into n in2)) late))
            ∙ sym (append_assoc early (use_if t (into n in0)) (use_if t (into n in1) ++ (use_if t (into n in2) ++ late)))

    pub input2_stands : plain_wires t ≤ 8192
        → stands_on t (into n in2) ≡ stands_at t (input_number t n in2) (times (input_number t n in2) (joined (inputs_at t) i) + times (input_number t n in2) (input_number t n in0 ∷ input_number t n in1 ∷ []))
    input2_stands few =
        input_by few (use_if t (into n in0) ++ use_if t (into n in1)) late in2 _ (source t (into n in2)) refl whole
        (λ h. both t (input_number t n in2) (use_if t (into n in0)) (use_if t (into n in1))
        ∙ ap₂ (λ (p q : ℕ). p + q) (input_counted t (input_number t n in2) h n in0) (input_counted t (input_number t n in2) h n in1)
        ∙ sym (two (input_number t n in2) (input_number t n in0) (input_number t n in1)))
      where
        whole : uses t ≡ (early ++ (use_if t (into n in0) ++ use_if t (into n in1))) ++ (use_if t (into n in2) ++ late)
        whole =
            around
            ∙ ap (λ (us : List Use). early ++ us)
            (append_assoc (use_if t (into n in0)) (use_if t (into n in1) ++ use_if t (into n in2)) late
            ∙ ap (λ (us : List Use). use_if t (into n in0) ++ us) (append_assoc (use_if t (into n in1)) (use_if t (into n in2)) late)
            ∙ sym (append_assoc (use_if t (into n in0)) (use_if t (into n in1)) (use_if t (into n in2) ++ late)))
            ∙ sym (append_assoc early (use_if t (into n in0) ++ use_if t (into n in1)) (use_if t (into n in2) ++ late))

    pub input_below_lem : (k : Input) → (input_number t n k ≡ absent) ⊎ (input_number t n k < plain_wires t)
    unfolding input_number
    input_below_lem k = go (source t (into n k)) refl
      where
        listed : (k : Input) → Among (into n k) (use_if t (into n k)) → Among (into n k) (role_uses t n)
        listed in0 m = among_left (into n in0) (use_if t (into n in0)) (use_if t (into n in1) ++ use_if t (into n in2)) m
        listed in1 m = among_right (into n in1) (use_if t (into n in0)) (use_if t (into n in1) ++ use_if t (into n in2)) (among_left (into n in1) (use_if t (into n in1)) (use_if t (into n in2)) m)
        listed in2 m = among_right (into n in2) (use_if t (into n in0)) (use_if t (into n in1) ++ use_if t (into n in2)) (among_right (into n in2) (use_if t (into n in1)) (use_if t (into n in2)) m)

        go : (o : Option Wire) → source t (into n k) ≡ o → (number_or t o ≡ absent) ⊎ (number_or t o < plain_wires t)
        go none e = inl refl
        go (some w) e =
            let m : Among (into n k) (use_if t (into n k)) = subst (λ (o : Option Wire). Among (into n k) (taken o (into n k))) (sym e) (inl refl) in
            let l = wire_low (into n k) (subst (Among (into n k)) (sym around) (among_right (into n k) early (role_uses t n ++ late) (among_left (into n k) (role_uses t n) late (listed k m)))) in
            let q = source_number_lem t S (into n k) w e in
            inr (omega arith)

  -- ---- the uses cut at result i
  module _ (i q : ℕ) (h : get_elem? (out_rows t) i ≡ some q) where
    abbrev D : Cut (out_rows t) i q
    D = cut (out_rows t) i q h

    abbrev earlier : List Use
    earlier = each (role_uses t) (roles t) ++ each (λ q. use_if t (result q)) D.before

    here : Taken t q
    here = out_taken q (there (out_rows t) i q h)

    behind : uses t ≡ earlier ++ (result q ∷ each (λ q. use_if t (result q)) D.behind)
    unfolding uses each
    behind =
        ap (λ (qs : List ℕ). each (role_uses t) (roles t) ++ each (λ q. use_if t (result q)) qs) D.whole
        ∙ ap (λ (us : List Use). each (role_uses t) (roles t) ++ us)
        (each_append (λ q. use_if t (result q)) D.before (q ∷ D.behind)
        ∙ ap (λ (o : Option Wire). each (λ q. use_if t (result q)) D.before ++ (taken o (result q) ++ each (λ q. use_if t (result q)) D.behind)) here.1)
        ∙ sym (append_assoc (each (role_uses t) (roles t)) (each (λ q. use_if t (result q)) D.before) (result q ∷ each (λ q. use_if t (result q)) D.behind))

    pub out_below : source_number t (result q) < plain_wires t
    out_below = wire_low (result q) (subst (Among (result q)) (sym behind) (among_right (result q) earlier (result q ∷ each (λ q. use_if t (result q)) D.behind) (inl refl)))

    pub result_stands : plain_wires t ≤ 8192
        → stands_on t (result q)
        ≡ stands_at t (source_number t (result q)) (times (source_number t (result q)) (joined (inputs_at t) (plain_nodes t)) + times (source_number t (result q)) (joined (out_at t) i))
    unfolding plain_nodes
    result_stands few =
        let x = source_number t (result q) in
        let low = out_below in
        let real : source_number t (result q) ≢ absent = λ z. omega arith in
        let front : (p : ℕ) → Among p D.before → Taken t p = λ p m. out_taken p (subst (Among p) (sym D.whole) (among_left p D.before (q ∷ D.behind) m)) in
        let count : times (source_number t (result q)) (numbers_of t earlier)
        ≡ times (source_number t (result q)) (joined (inputs_at t) (length (roles t))) + times (source_number t (result q)) (joined (out_at t) i)
        = both t (source_number t (result q)) (each (role_uses t) (roles t)) (each (λ q. use_if t (result q)) D.before)
        ∙ ap₂ (λ (a b : ℕ). a + b)
        (roles_counted t (source_number t (result q)) real (roles t) ∙ ap (times (source_number t (result q))) (sym (joined_along (inputs_of t) (roles t))))
        (ap (times (source_number t (result q))) (outs_numbers t D.before front ∙ sym (before_cut (out_of t) (out_rows t) i q D))) in
        stands_by_numbers t S earlier (each (λ q. use_if t (result q)) D.behind) (result q) behind
        ∙ ap (λ (j : ℕ). leg_at (source_number t (result q)) (free_from t (source_number t (result q))) (use_count t (source_number t (result q))) j) count
        ∙ sym (ap (λ (b : Bool). cond b absent (leg_at (source_number t (result q)) (free_from t (source_number t (result q))) (use_count t (source_number t (result q))) (times (source_number t (result q)) (joined (inputs_at t) (length (roles t))) + times (source_number t (result q)) (joined (out_at t) i)))) (ne_eqb (source_number t (result q)) absent real))
