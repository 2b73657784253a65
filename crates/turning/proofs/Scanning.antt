-- The scan that notes where loops end, row by row. Assumes nothing.
use Prim.Native.Nat.{ℕ, ◌+◌, ◌≤◌, ◌<◌}
use mathlib.Core.Bool.{cond}
use mathlib.Core.List.{List}
use mathlib.Core.Logic.{◌≢◌}
use mathlib.Core.Path.{◌≡◌, sym, ap, ◌∙◌}
use native.Mathlib.Omega.{arith}
use native.Mathlib.Decide.{ℕ_discrete}
use native.Mathlib.Numerals.{add-one}
use borrow.Author.Tests.{ne_eqb}
use lib.Dec.{eqb}
use lib.ListN.{length, get_or, set, length-set}
use lib.Seq.{get_or-set_same, get_or-set_other}
use Rattle.table.specs.Rows.{kind_at, size}
use Rattle.table.specs.Scan.{body_of}
use Rattle.table.specs.Bodies.{end_of}
use Rattle.table.specs.Right.{TableRight}
use Rattle.structure.specs.Behind.{body_first, body_after_for, body_after_end, body_after_other}
use Rattle.structure.specs.Structure.{Structure, right_table_has_structure}
use Rattle.turning.specs.Words.{body_after, note_at, note_of, Ends}
use Rattle.turning.proofs.Naming.{few_rows}

-- what is noted before row r
pub record Noted (t : List ℕ) (r body : ℕ) (notes : List ℕ) : Type 0 where
  pub long : length notes ≡ 512
  pub body_is : body ≡ body_of t r
  pub around : (L : ℕ) → L < r → kind_at t L ≡ 4 → r ≤ end_of t L → get_or notes L 0 ≡ body_of t L
  pub shut : (L : ℕ) → L < r → kind_at t L ≡ 4 → end_of t L < r → get_or notes L 0 ≡ end_of t L

module _ (t : List ℕ) (ok : TableRight t) where
  abbrev S : Structure t
  S = right_table_has_structure t ok

  pub none_noted : (n : ℕ) (notes : List ℕ) → n ≡ size t → length notes ≡ 512 → Noted t 0 n notes
  none_noted n notes e l =
      record { long = l; body_is = e ∙ sym (body_first t); around = λ L h k q. absurd (omega arith); shut = λ L h k q. absurd (omega arith) }

  pub all_noted : (r body : ℕ) (notes : List ℕ) → Noted t r body notes → size t ≤ r → Ends t notes
  all_noted r body notes N h =
      record { long = N.long; end = λ L l k. N.shut L (omega arith) k (let i = (S.loop_span L l k).inside in omega arith) }

  -- an END is in a loop that is still open
  pub end_loop : (r body : ℕ) (notes : List ℕ) → Noted t r body notes → r < size t → kind_at t r ≡ 7 → body < r
  end_loop r body notes N l k = let e = (S.end_of_lem r l k).1 in let b = N.body_is in omega arith

  pub end_inside : (r body : ℕ) (notes : List ℕ) → Noted t r body notes → r < size t → kind_at t r ≡ 7 → body < 512
  end_inside r body notes N l k = let b = end_loop r body notes N l k in let f = few_rows t ok in omega arith

  -- the note of one row
  put : (notes : List ℕ) (p w L : ℕ) → length notes ≡ 512 → p < 512 → L ≡ p → get_or (set notes p w) L 0 ≡ w
  put notes p w L h l e = ap (λ (x : ℕ). get_or (set notes p w) x 0) e ∙ get_or-set_same notes p w 0 (omega arith)

  module _ (r body : ℕ) (notes : List ℕ) (N : Noted t r body notes) (l : r < size t) where
    -- behind a row that is no END
    no_end : kind_at t r ≢ 7 → (next : ℕ) → next ≡ body_of t (r + 1) → Noted t (r + 1) next (set notes r body)
    no_end n next e =
        record {
          long = length-set notes r body ∙ N.long;
          body_is = e;
          around = λ L h k q. elim (ℕ_discrete L r) [ yes d ↦ put notes r body L N.long (omega (arith, few_rows t ok)) d ∙ N.body_is ∙ ap (body_of t) (sym d) | no d ↦ get_or-set_other notes r L body 0 d ∙ N.around L (under L d h) k (omega arith) ];
          shut = λ L h k q. elim (ℕ_discrete L r) [ yes d ↦ absurd (over L k d q) | no d ↦ get_or-set_other notes r L body 0 d ∙ N.shut L (under L d h) k (before L k q (under L d h)) ];
        }
      where
        under : (L : ℕ) → L ≢ r → L < r + 1 → L < r
        under L d h = omega arith

        over : (L : ℕ) → kind_at t L ≡ 4 → L ≡ r → end_of t L < r + 1 → ⊥
        over L k d q = let s = (S.loop_span L (omega arith) k).below in omega arith

        apart : (x : ℕ) → x < r + 1 → x ≢ r → x < r
        apart x h n = omega arith

        before : (L : ℕ) → kind_at t L ≡ 4 → end_of t L < r + 1 → L < r → end_of t L < r
        before L k q h = apart (end_of t L) q (λ e. n (ap (kind_at t) (sym e) ∙ (S.loop_span L (omega arith) k).end_kind))

    -- behind an END
    an_end : kind_at t r ≡ 7 → (next : ℕ) → next ≡ get_or notes body 0 → Noted t (r + 1) next (set notes body r)
    an_end k7 next e =
        let E = S.end_of_lem r l k7 in
        let b = N.body_is in
        let kb : kind_at t body ≡ 4 = ap (kind_at t) b ∙ E.0 in
        let eb : end_of t body ≡ r = ap (end_of t) b ∙ E.2 in
        let lb = E.1 in
        record {
          long = length-set notes body r ∙ N.long;
          body_is = e ∙ N.around body (omega arith) kb (omega arith) ∙ ap (body_of t) b ∙ sym (ap (body_of t) (add-one r) ∙ body_after_end t ok r l k7);
          around = λ L h k q. get_or-set_other notes body L r 0 (λ d. let f = ap (end_of t) d in omega arith) ∙ N.around L (under L k h) k (omega arith);
          shut = λ L h k q.
              elim (ℕ_discrete L body) [
                | yes d ↦ put notes body r L N.long (omega (arith, few_rows t ok)) d ∙ sym eb ∙ ap (end_of t) (sym d)
                | no d ↦ get_or-set_other notes body L r 0 d ∙ N.shut L (under L k h) k (before L k q d (under L k h))
              ];
        }
      where
        under : (L : ℕ) → kind_at t L ≡ 4 → L < r + 1 → L < r
        under L k h = apart L h (λ e. let f = ap (kind_at t) e in omega arith)
          where
            apart : (x : ℕ) → x < r + 1 → x ≢ r → x < r
            apart x h n = omega arith

        before : (L : ℕ) → kind_at t L ≡ 4 → end_of t L < r + 1 → L ≢ body → L < r → end_of t L < r
        before L k q d h = apart (end_of t L) q (λ e. d (sym (S.loop_span L (omega arith) k).end_body ∙ ap (body_of t) e ∙ sym N.body_is))
          where
            apart : (x : ℕ) → x < r + 1 → x ≢ r → x < r
            apart x h n = omega arith

    pub one_noted : (kind next p w : ℕ) → kind ≡ kind_at t r → next ≡ body_after kind notes r body → p ≡ note_at kind r body → w ≡ note_of kind r body → Noted t (r + 1) next (set notes p w)
    one_noted kind next p w k a b c =
        elim (ℕ_discrete kind 7) [
          | yes e ↦ let a₁ = rw e at a in let b₁ = rw e at b in let c₁ = rw e at c in rw (b₁, c₁) (an_end (sym k ∙ e) next a₁)
          | no n ↦ plain n
        ]
      where
        plain : kind ≢ 7 → Noted t (r + 1) next (set notes p w)
        plain n =
            let b₁ : p ≡ r = b ∙ ap (λ x. cond x body r) (ne_eqb kind 7 n) in
            let c₁ : w ≡ body = c ∙ ap (λ x. cond x r body) (ne_eqb kind 7 n) in
            let a₁ : next ≡ cond (eqb kind 4) r body = a ∙ ap (λ x. cond (eqb kind 4) r (cond x (get_or notes body 0) body)) (ne_eqb kind 7 n) in
            rw (b₁, c₁)
            (no_end (λ z. n (k ∙ z)) next
            (elim (ℕ_discrete kind 4) [
              | yes e ↦ (let a₂ = rw e at a₁ in a₂ ∙ sym (ap (body_of t) (add-one r) ∙ body_after_for t r (sym k ∙ e)))
              | no m ↦ (let a₂ : next ≡ body = a₁ ∙ ap (λ x. cond x r body) (ne_eqb kind 4 m) in a₂ ∙ N.body_is ∙ sym (ap (body_of t) (add-one r) ∙ body_after_other t r (λ z. m (k ∙ z)) (λ z. n (k ∙ z))))
            ]))

    pub note_inside : (kind p : ℕ) → kind ≡ kind_at t r → p ≡ note_at kind r body → p < 512
    note_inside kind p k b =
        elim (ℕ_discrete kind 7) [
          | yes e ↦ let b₁ = rw e at b in let q = end_loop r body notes N l (sym k ∙ e) in let f = few_rows t ok in omega arith
          | no n ↦ let b₁ : p ≡ r = b ∙ ap (λ x. cond x body r) (ne_eqb kind 7 n) in let f = few_rows t ok in omega arith
        ]
