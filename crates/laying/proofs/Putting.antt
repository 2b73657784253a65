-- One row of seven words put down: it is the node with these words, and every other row stays. Assumes nothing.
use Prim.Native.Nat.{ℕ, zero, suc, ◌+◌, ◌*◌, ◌≤◌, ◌<◌}
use mathlib.Core.Path.{◌≡◌, refl, sym, ap, ap₂, ◌∙◌, subst}
use mathlib.Core.Logic.{◌≢◌, ◌⊎◌, inl, inr}
use mathlib.Core.List.{List, [], ◌∷◌}
use mathlib.Core.Option.{some}
use native.Mathlib.Omega.{arith}
use native.Mathlib.Decide.{ℕ_discrete}
use lib.ListN.{length, get_or, set, get_elem?, length-set}
use lib.Seq.{sets, length-sets, get_or-set_same, get_or-set_other}
use Rattle.step.specs.Kinds.{Kind}
use Rattle.graph.specs.Graph.{Node, absent}
use Rattle.lowered.specs.Roles.{Role}
use Rattle.lowered.specs.Lower.{roles, kind_number, node_words}
use Rattle.written.specs.Plain.{plain_node, RowIs, RightRow}
use Rattle.written.specs.Places.{node, right_by}
use Rattle.laying.specs.Rows.{loop_rows, arg_rows}

one_put : (l m n : List ℕ) (p q w : ℕ) → l ≡ m → n ≡ set l q w → q ≡ p → n ≡ set m p w
one_put l m n p q w e d h = d ∙ ap₂ {C = List ℕ} (λ (x : List ℕ) (y : ℕ). set x y w) e h

-- seven words put one after the other
pub seven : (l l₁ l₂ l₃ l₄ l₅ l₆ l₇ : List ℕ) (p k c s a b d f : ℕ)
    → l₁ ≡ set l p k → l₂ ≡ set l₁ (p + 1) c → l₃ ≡ set l₂ (p + 2) s → l₄ ≡ set l₃ (p + 3) a → l₅ ≡ set l₄ (p + 4) b → l₆ ≡ set l₅ (p + 5) d → l₇ ≡ set l₆ (p + 6) f
    → l₇ ≡ sets l p (k ∷ c ∷ s ∷ a ∷ b ∷ d ∷ f ∷ [])
seven l l₁ l₂ l₃ l₄ l₅ l₆ l₇ p k c s a b d f e₁ e₂ e₃ e₄ e₅ e₆ e₇ =
    one_put l₆ _ l₇ (suc (suc (suc (suc (suc (suc p)))))) (p + 6) f
    (one_put l₅ _ l₆ (suc (suc (suc (suc (suc p))))) (p + 5) d
    (one_put l₄ _ l₅ (suc (suc (suc (suc p)))) (p + 4) b
    (one_put l₃ _ l₄ (suc (suc (suc p))) (p + 3) a
    (one_put l₂ _ l₃ (suc (suc p)) (p + 2) s
    (one_put l₁ _ l₂ (suc p) (p + 1) c e₁ e₂ (omega arith)) e₃ (omega arith)) e₄ (omega arith)) e₅ (omega arith)) e₆ (omega arith)) e₇ (omega arith)

pub sets_other : (vs l : List ℕ) (i j : ℕ) → (j < i) ⊎ (i + length vs ≤ j) → get_or (sets l i vs) j 0 ≡ get_or l j 0
sets_other [] l i j h = refl
sets_other (a ∷ vs) l i j (inl h) = sets_other vs (set l i a) (suc i) j (inl (omega arith)) ∙ get_or-set_other l i j a 0 (λ e. omega arith)
sets_other (a ∷ vs) l i j (inr h) = sets_other vs (set l i a) (suc i) j (inr (omega arith)) ∙ get_or-set_other l i j a 0 (λ e. omega arith)

pub sets_in : (vs l : List ℕ) (i k : ℕ) → k < length vs → i + length vs ≤ length l → get_or (sets l i vs) (i + k) 0 ≡ get_or vs k 0
sets_in [] l i k h r = absurd (omega arith)
sets_in (a ∷ vs) l i zero h r =
    let z : i + 0 ≡ i = omega arith in
    ap (λ (p : ℕ). get_or (sets (set l i a) (suc i) vs) p 0) z ∙ sets_other vs (set l i a) (suc i) i (inl (omega arith)) ∙ get_or-set_same l i a 0 (omega arith)
sets_in (a ∷ vs) l i (suc k) h r =
    let z : i + suc k ≡ suc i + k = omega arith in
    let e = length-set l i a in
    ap (λ (p : ℕ). get_or (sets (set l i a) (suc i) vs) p 0) z ∙ sets_in vs (set l i a) (suc i) k (omega arith) (omega arith)

row_put : (rows : List ℕ) (i : ℕ) (nd : Node) → length rows ≡ 28672 → i < 4096 → RowIs (sets rows (7 * i) (node_words nd)) i nd
row_put rows i nd long l =
    record {
      kind = ap (λ (p : ℕ). get_or (sets rows (7 * i) (node_words nd)) p 0) (let z : 7 * i ≡ 7 * i + 0 = omega arith in z) ∙ at 0 (omega arith);
      code = at 1 (omega arith);
      sort = at 2 (omega arith);
      in0 = at 3 (omega arith);
      in1 = at 4 (omega arith);
      in2 = at 5 (omega arith);
      first = at 6 (omega arith);
    }
  where
    at : (k : ℕ) → k < 7 → get_or (sets rows (7 * i) (node_words nd)) (7 * i + k) 0 ≡ get_or (node_words nd) k 0
    at k h = sets_in (node_words nd) rows (7 * i) k h (let e = long in omega arith)

row_stays : (rows : List ℕ) (i j : ℕ) (new nd : Node) → j ≢ i → RowIs rows j nd → RowIs (sets rows (7 * i) (node_words new)) j nd
row_stays rows i j new nd n R =
    record {
      kind = ap (λ (p : ℕ). get_or (sets rows (7 * i) (node_words new)) p 0) plain ∙ at 0 (omega arith) ∙ ap (λ (p : ℕ). get_or rows p 0) (sym plain) ∙ R.kind;
      code = at 1 (omega arith) ∙ R.code;
      sort = at 2 (omega arith) ∙ R.sort;
      in0 = at 3 (omega arith) ∙ R.in0;
      in1 = at 4 (omega arith) ∙ R.in1;
      in2 = at 5 (omega arith) ∙ R.in2;
      first = at 6 (omega arith) ∙ R.first;
    }
  where
    plain : 7 * j ≡ 7 * j + 0
    plain = omega arith

    apart : (k : ℕ) → k < 7 → j ≢ i → (7 * j + k < 7 * i) ⊎ (7 * i + 7 ≤ 7 * j + k)
    apart k h z = elim (side i j) [ inl q ↦ inl (omega arith) | inr q ↦ inr (omega arith) ]
      where
        side : (i j : ℕ) → (j < i) ⊎ (i ≤ j)
        side zero j = inr (omega arith)
        side (suc i) zero = inl (omega arith)
        side (suc i) (suc j) = elim (side i j) [ inl q ↦ inl (omega arith) | inr q ↦ inr (omega arith) ]

    at : (k : ℕ) → k < 7 → get_or (sets rows (7 * i) (node_words new)) (7 * j + k) 0 ≡ get_or rows (7 * j + k) 0
    at k h = sets_other (node_words new) rows (7 * i) (7 * j + k) (apart k h n)

-- what putting a row down right does to the rows
pub record Put (t rows new : List ℕ) (i : ℕ) : Type 0 where
  pub row : RightRow t new i
  pub stays : (j : ℕ) → RightRow t rows j → RightRow t new j
  pub long : length new ≡ 28672

put_right : (t rows new : List ℕ) (i : ℕ) (nd : Node) (n : Role) → length rows ≡ 28672 → i < 4096 → new ≡ sets rows (7 * i) (node_words nd) → plain_node t n ≡ nd → get_elem? (roles t) i ≡ some n → Put t rows new i
put_right t rows new i nd n long l e w at =
    record {
      row = here;
      stays = λ j R. elim (ℕ_discrete j i) [ yes z ↦ subst (RightRow t new) (sym z) here | no z ↦ (λ m d. subst (λ (x : List ℕ). RowIs x j (plain_node t m)) (sym e) (row_stays rows i j nd (plain_node t m) z (R m d))) ];
      long = ap (λ (x : List ℕ). length x) e ∙ length-sets rows (7 * i) (node_words nd) ∙ long;
    }
  where
    here : RightRow t new i
    here = right_by t new i n nd at w (subst (λ (x : List ℕ). RowIs x i nd) (sym e) (row_put rows i nd long l))

-- the same by numbers: the words put down are those of node n, which stands at place j
pub laid : (t rows new : List ℕ) (i j : ℕ) (n : Role) (k : Kind) (c c' s s' a a' b b' d d' f f' : ℕ) → length rows ≡ 28672 → i < 4096
    → new ≡ sets rows (7 * i) (kind_number k ∷ c ∷ s ∷ a ∷ b ∷ d ∷ f ∷ []) → i ≡ j → get_elem? (roles t) j ≡ some n → plain_node t n ≡ node k c' s' a' b' d' f'
    → c ≡ c' → s ≡ s' → a ≡ a' → b ≡ b' → d ≡ d' → f ≡ f' → Put t rows new j
laid t rows new i j n k c c' s s' a a' b b' d d' f f' long l e at h w ec es ea eb ed ef =
    subst (Put t rows new) at
    (put_right t rows new i (node k c s a b d f) n long l e (w ∙ sym (same ec es ea eb ed ef)) (ap (get_elem? (roles t)) at ∙ h))
  where
    same : c ≡ c' → s ≡ s' → a ≡ a' → b ≡ b' → d ≡ d' → f ≡ f' → node k c s a b d f ≡ node k c' s' a' b' d' f'
    same p q r x y z = rw (p, q, r, x, y, z)

pub two_rows : (rows half new : List ℕ) (p q : ℕ) (ws us : List ℕ) → half ≡ sets rows p ws → new ≡ sets half q us → new ≡ sets (sets rows p ws) q us
two_rows rows half new p q ws us e d = d ∙ ap (λ (x : List ℕ). sets x q us) e

-- the rows of a FOR and of an ARG put down one after the other, by the numbers that their words were read from
pub three_loop_rows : (rows one two new : List ℕ) (i w update condition a b d i' w' update' condition' a' b' d' : ℕ)
    → i ≡ i' → w ≡ w' → update ≡ update' → condition ≡ condition' → a ≡ a' → b ≡ b' → d ≡ d'
    → one ≡ sets rows (7 * i) (0 ∷ (5 * update + condition) ∷ 0 ∷ a ∷ b ∷ d ∷ w ∷ [])
    → two ≡ sets one (7 * (i + 1)) (1 ∷ 0 ∷ 0 ∷ w ∷ (w + 1) ∷ absent ∷ (w + 2) ∷ [])
    → new ≡ sets two (7 * (i + 2)) (7 ∷ (3 + condition) ∷ 0 ∷ a ∷ d ∷ absent ∷ (w + 4) ∷ [])
    → new ≡ loop_rows rows i' w' update' condition' a' b' d'
three_loop_rows rows one two new i w update condition a b d i' w' update' condition' a' b' d' ei ew eu ec ea eb ed e₁ e₂ e₃ =
    rw (e₃, e₂, e₁, ei, ew, eu, ec, ea, eb, ed)

pub two_arg_rows : (rows one new wires at : List ℕ) (i w body raw next a b i' w' body' next' a' : ℕ)
    → i ≡ i' → w ≡ w' → body ≡ body' → raw ≡ get_or wires body 0 → next ≡ next' → a ≡ a' → b ≡ get_or at (3 * next) 0
    → one ≡ sets rows (7 * i) (2 ∷ 0 ∷ 0 ∷ (raw + 1) ∷ a ∷ b ∷ w ∷ [])
    → new ≡ sets one (7 * (i + 1)) (4 ∷ 0 ∷ 0 ∷ (raw + 1) ∷ w ∷ absent ∷ (w + 1) ∷ [])
    → new ≡ arg_rows rows i' w' (get_or wires body' 0 + 1) a' (get_or at (3 * next') 0)
two_arg_rows rows one new wires at i w body raw next a b i' w' body' next' a' ei ew eB er en ea eb e₁ e₂ = rw (e₂, e₁, er, eb, ei, ew, eB, en, ea)
