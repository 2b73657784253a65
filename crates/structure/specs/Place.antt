-- What the place rules say of a right row, one rule a law, and how each kind moves the stack of open loops.
-- Main names: `behind_next`, `behind_out`, `arg_behind`, `start_behind`, `next_has_arg`, `end_is_served`, `out_is_outside`; `Move`, `move`,
-- `stack_opens`, `stack_arg`, `stack_next`, `stack_closes`, `stack_stays`.
-- Assumes nothing.
use Rattle.std.specs.Prelude.{ℕ, suc, ◌≤◌, Bool, true, false, cond, ◌&&◌, ◌||◌, List, ◌∷◌, ◌≢◌, ◌⊎◌, ◌≡◌, refl, eqb}
use Rattle.std.proofs.lemmas.Bool.{false≢true}
use Rattle.std.proofs.Common.{inl, inr, arith}
use Rattle.std.proofs.Math.Decide.{ℕ_discrete}
use borrow.Author.Tests.{eqb-true, leb-true, ne_eqb, le-leb}
use Rattle.table.specs.Rows.{kind_at}
use Rattle.table.specs.Scan.{opened, one_arg, one_next, at_head, outward, after, stack_at}
use Rattle.table.specs.Check.{kind_before, follows, arg_left, all_served, outside, stands, place_right}
use Rattle.table.specs.Right.{RowRight}

-- two tests joined
pub both : (a b : Bool) → (a && b) ≡ true → (a ≡ true) × (b ≡ true)
both true b h = (refl, h)
both false b h = absurd (false≢true h)

either : (a b : Bool) → (a || b) ≡ true → (a ≡ true) ⊎ (b ≡ true)
either true b h = inl refl
either false b h = inr h

pick_no : (b : Bool) {x : Bool} → cond b false x ≡ true → x ≡ true
pick_no true h = absurd (false≢true h)
pick_no false h = h

-- the rules on neighbours, over bare kinds
next_then : (k : ℕ) → follows 6 k ≡ true → (k ≡ 6) ⊎ (k ≡ 7)
unfolding follows
next_then k h = go (either (eqb k 6) (eqb k 7) h)
  where
    go : (eqb k 6 ≡ true) ⊎ (eqb k 7 ≡ true) → (k ≡ 6) ⊎ (k ≡ 7)
    go (inl e) = inl (eqb-true k 6 e)
    go (inr e) = inr (eqb-true k 7 e)

out_then : (k : ℕ) → follows 8 k ≡ true → k ≡ 8
unfolding follows
out_then k h = eqb-true k 8 h

then_arg : (b : ℕ) → follows b 5 ≡ true → (b ≡ 4) ⊎ (b ≡ 5)
unfolding follows
then_arg b h = go (either (eqb b 4) (eqb b 5) (pick_no (eqb b 6) (pick_no (eqb b 8) h)))
  where
    go : (eqb b 4 ≡ true) ⊎ (eqb b 5 ≡ true) → (b ≡ 4) ⊎ (b ≡ 5)
    go (inl e) = inl (eqb-true b 4 e)
    go (inr e) = inr (eqb-true b 5 e)

then_start : (b k : ℕ) → k ≤ 1 → follows b k ≡ true → b ≤ 1
unfolding follows
then_start b k l h =
    let a = simp (ne_eqb k 8 (λ e. omega arith), ne_eqb k 6 (λ e. omega arith), ne_eqb k 7 (λ e. omega arith), le-leb k 1 l) at h in
    leb-true b 1 (pick_no (eqb b 6) (pick_no (eqb b 8) a))

module _ (t : List ℕ) (r : ℕ) (ok : RowRight t r) where
  neighbours : follows (kind_before t r) (kind_at t r) ≡ true
  unfolding place_right
  neighbours = (both (follows (kind_before t r) (kind_at t r)) (stands (kind_at t r) (stack_at t r)) ok.place).0

  standing : stands (kind_at t r) (stack_at t r) ≡ true
  unfolding place_right
  standing = (both (follows (kind_before t r) (kind_at t r)) (stands (kind_at t r) (stack_at t r)) ok.place).1

  -- 'Behind a NEXT stands another NEXT or the END'
  pub behind_next : kind_before t r ≡ 6 → (kind_at t r ≡ 6) ⊎ (kind_at t r ≡ 7)
  behind_next e = next_then (kind_at t r) (rw e at neighbours)

  -- 'Below an OUT there are only OUTs.'
  pub behind_out : kind_before t r ≡ 8 → kind_at t r ≡ 8
  behind_out e = out_then (kind_at t r) (rw e at neighbours)

  -- 'The ARGs of a loop stand directly behind its FOR.'
  pub arg_behind : kind_at t r ≡ 5 → (kind_before t r ≡ 4) ⊎ (kind_before t r ≡ 5)
  arg_behind e = then_arg (kind_before t r) (rw e at neighbours)

  -- 'No other kind stands above an INPUT or CONST.'
  pub start_behind : kind_at t r ≤ 1 → kind_before t r ≤ 1
  start_behind l = then_start (kind_before t r) (kind_at t r) l neighbours

  pub next_has_arg : kind_at t r ≡ 6 → arg_left (stack_at t r) ≡ true
  unfolding stands
  next_has_arg e = rw e at standing

  pub end_is_served : kind_at t r ≡ 7 → all_served (stack_at t r) ≡ true
  unfolding stands
  end_is_served e = rw e at standing

  pub out_is_outside : kind_at t r ≡ 8 → outside (stack_at t r) ≡ true
  unfolding stands
  out_is_outside e = rw e at standing

-- what a row of kind k does to the stack
pub data Move (k : ℕ) : Type 0 where
  opens : k ≡ 4 → Move k
  counts : k ≡ 5 → Move k
  serves : k ≡ 6 → Move k
  closes : k ≡ 7 → Move k
  stays : k ≢ 4 → k ≢ 5 → k ≢ 6 → k ≢ 7 → Move k

pub move : (k : ℕ) → Move k
move k =
    elim (ℕ_discrete k 4) [
      | yes e ↦ opens e
      | no n4 ↦ elim (ℕ_discrete k 5) [
        | yes e ↦ counts e
        | no n5 ↦ elim (ℕ_discrete k 6) [
          | yes e ↦ serves e
          | no n6 ↦ elim (ℕ_discrete k 7) [
            | yes e ↦ closes e
            | no n7 ↦ stays n4 n5 n6 n7
          ]
        ]
      ]
    ]

module _ (t : List ℕ) (r : ℕ) where
  pub stack_opens : kind_at t r ≡ 4 → stack_at t (suc r) ≡ opened r ∷ stack_at t r
  unfolding stack_at after
  stack_opens e = rw e

  pub stack_arg : kind_at t r ≡ 5 → stack_at t (suc r) ≡ at_head one_arg (stack_at t r)
  unfolding stack_at after
  stack_arg e = rw e

  pub stack_next : kind_at t r ≡ 6 → stack_at t (suc r) ≡ at_head one_next (stack_at t r)
  unfolding stack_at after
  stack_next e = rw e

  pub stack_closes : kind_at t r ≡ 7 → stack_at t (suc r) ≡ outward (stack_at t r)
  unfolding stack_at after
  stack_closes e = rw e

  pub stack_stays : kind_at t r ≢ 4 → kind_at t r ≢ 5 → kind_at t r ≢ 6 → kind_at t r ≢ 7 → stack_at t (suc r) ≡ stack_at t r
  unfolding stack_at after
  stack_stays n4 n5 n6 n7 = rw (ne_eqb (kind_at t r) 4 n4, ne_eqb (kind_at t r) 5 n5, ne_eqb (kind_at t r) 6 n6, ne_eqb (kind_at t r) 7 n7)
