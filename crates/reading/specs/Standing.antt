-- Every loop that is open where the reading stands has an opening. So each further turn is counted.
--
--   Standing, begin_stands, step_further, reach_stands     it is so from the beginning on, and a step goes to a row further down or makes a turn
--   turn_counts, no_turn_made, one_turn_made      a further turn of a loop that has an opening is one turn more
--
-- Assumes nothing.
use Rattle.std.specs.Prelude.{ℕ, suc, ◌+◌, ◌<◌, ◌≤◌, Bool, true, false, cond, List, [], ◌∷◌, ◌⊎◌, ◌≡◌, refl, eqb}
use Rattle.std.proofs.Common.{inl, inr, sym, ap, ◌∙◌, arith, eqb-true}
use Rattle.std.proofs.Math.Path.{subst}
use Rattle.std.proofs.Math.Decide.{dec_lt}
use Rattle.std.proofs.lemmas.Bool.{eqb-false}
use Rattle.table.specs.Rows.{kind_at, size}
use Rattle.table.specs.Scan.{body_of}
use Rattle.table.specs.Bodies.{end_of}
use Rattle.table.specs.Right.{TableRight}
use Rattle.structure.specs.Structure.{Structure, right_table_has_structure}
use Rattle.structure.specs.Behind.{loops_at, loops_first, loops_around, loops_after_end, loops_after_other, loops_in_body}
use Rattle.reading.specs.Reading.{Opening, opening, State, on, stop, one_turn, begin, step}
use Rattle.reading.specs.Steps.{step_past, Stepped, goes_on, opens, skips, faults, turns, leaves, step_is}
use Rattle.reading.specs.Within.{turns_made, Reach, here, then}

-- loop L has an opening
pub data Opened (L : ℕ) : List Opening → Type 0 where
  newest : {o : Opening} {os : List Opening} → o.loop ≡ L → Opened L (o ∷ os)
  older : {o : Opening} {os : List Opening} → Opened L os → Opened L (o ∷ os)

-- all of these loops have
pub data AllOpened (os : List Opening) : List ℕ → Type 0 where
  none : AllOpened os []
  more : {L : ℕ} {Ls : List ℕ} → Opened L os → AllOpened os Ls → AllOpened os (L ∷ Ls)

pub record Standing (t : List ℕ) (pc : ℕ) (os : List Opening) : Type 0 where
  pub below : pc ≤ size t
  pub opened : AllOpened os (loops_at t pc)

-- ---- openings
opened_later : {os : List Opening} {Ls : List ℕ} (o : Opening) → AllOpened os Ls → AllOpened (o ∷ os) Ls
opened_later o none = none
opened_later o (more p ps) = more (older p) (opened_later o ps)

turned_opened : (M : ℕ) {L : ℕ} {os : List Opening} → Opened L os → Opened L (one_turn M os)
turned_opened M {L} (newest {o = o} {os = os} e) = go (eqb o.loop M) refl
  where
    go : (b : Bool) → eqb o.loop M ≡ b → Opened L (cond b (opening M (suc o.turns) ∷ os) (o ∷ one_turn M os))
    go true q = newest (sym (eqb-true o.loop M q) ∙ e)
    go false q = newest e
turned_opened M {L} (older {o = o} {os = os} p) = go (eqb o.loop M) (turned_opened M p)
  where
    go : (b : Bool) → Opened L (one_turn M os) → Opened L (cond b (opening M (suc o.turns) ∷ os) (o ∷ one_turn M os))
    go true q = older p
    go false q = older q

all_turned : (M : ℕ) {os : List Opening} {Ls : List ℕ} → AllOpened os Ls → AllOpened (one_turn M os) Ls
all_turned M none = none
all_turned M (more p ps) = more (turned_opened M p) (all_turned M ps)

pub turn_counts : (L : ℕ) {os : List Opening} → Opened L os → turns_made (one_turn L os) ≡ suc (turns_made os)
unfolding turns_made
turn_counts L (newest {o = o} {os = os} e) = go (eqb o.loop L) refl
  where
    go : (b : Bool) → eqb o.loop L ≡ b → turns_made (cond b (opening L (suc o.turns) ∷ os) (o ∷ one_turn L os)) ≡ suc (o.turns + turns_made os)
    go true q = omega arith
    go false q = absurd (eqb-false o.loop L q e)
turn_counts L (older {o = o} {os = os} p) = go (eqb o.loop L) (turn_counts L p)
  where
    go : (b : Bool) → turns_made (one_turn L os) ≡ suc (turns_made os) → turns_made (cond b (opening L (suc o.turns) ∷ os) (o ∷ one_turn L os)) ≡ suc (o.turns + turns_made os)
    go true q = omega arith
    go false q = omega arith

first_opened : {os : List Opening} {L : ℕ} {Ls : List ℕ} → AllOpened os (L ∷ Ls) → Opened L os
first_opened (more p ps) = p

rest_opened : {os : List Opening} {L : ℕ} {Ls : List ℕ} → AllOpened os (L ∷ Ls) → AllOpened os Ls
rest_opened (more p ps) = ps

pub no_turn_made : (L : ℕ) (os : List Opening) → turns_made (opening L 0 ∷ os) ≡ turns_made os
unfolding turns_made
no_turn_made L os = omega arith

pub one_turn_made : (L : ℕ) (os : List Opening) → turns_made (opening L 1 ∷ os) ≡ suc (turns_made os)
unfolding turns_made
one_turn_made L os = omega arith

module _ (t : List ℕ) (ok : TableRight t) where
  abbrev S : Structure t
  S = right_table_has_structure t ok

  -- the loops around an END
  pub end_loops : (r : ℕ) → r < size t → kind_at t r ≡ 7 → loops_at t r ≡ body_of t r ∷ loops_at t (body_of t r)
  end_loops r l k = loops_around t ok r (omega arith) (λ e. let b = (S.end_of_lem r l k).1 in omega arith)

  pub end_opened : (r : ℕ) (os : List Opening) → r < size t → kind_at t r ≡ 7 → Standing t r os → Opened (body_of t r) os
  end_opened r os l k s = first_opened (subst (AllOpened os) (end_loops r l k) s.opened)

  pub begin_stands : (inputs : List ℕ) → Standing t (begin t inputs).pc (begin t inputs).openings
  unfolding begin
  begin_stands inputs = record { below = omega arith; opened = subst (AllOpened []) (sym (loops_first t)) none }

  -- a step: the loops are still open, and it comes to a row further down or makes one turn
  pub record Further (s s₁ : State) : Type 0 where
    pub stands : Standing t s₁.pc s₁.openings
    pub further : ((s.pc < s₁.pc) × (turns_made s₁.openings ≡ turns_made s.openings)) ⊎ (turns_made s₁.openings ≡ suc (turns_made s.openings))

  pub step_further : (s s₁ : State) → Standing t s.pc s.openings → s.pc < size t → step t s ≡ on s₁ → Further s s₁
  step_further s s₁ st l e = go (step_is t S s l)
    where
      so : {x : State} → step t s ≡ on x → Further s x → Further s s₁
      so {x} q f = let z : x ≡ s₁ = let h : on x ≡ on s₁ = sym q ∙ e in cc in subst (Further s) z f

      go : Stepped t s → Further s s₁
      go (goes_on a b env q) =
          so q (record {
            stands = record { below = omega arith; opened = subst (AllOpened s.openings) (sym (loops_after_other t s.pc a b)) st.opened };
            further = inl (omega arith, refl);
          })
      go (opens k env q) =
          let f = S.loop_first s.pc l k in
          let p = (S.loop_span s.pc l k).inside in
          so q (record {
            stands =
                record {
                  below = let f0 = f.1 in omega arith;
                  opened = subst (AllOpened (opening s.pc 1 ∷ s.openings)) (sym (loops_in_body t s.pc k)) (more (newest refl) (opened_later (opening s.pc 1) st.opened));
                };
            further = inr (one_turn_made s.pc s.openings);
          })
      go (skips k env q) =
          let p = S.loop_span s.pc l k in
          let low = p.below in
          let high = p.inside in
          so q (record {
            stands =
                record {
                  below = omega arith;
                  opened =
                      subst (AllOpened (opening s.pc 0 ∷ s.openings)) (sym (loops_after_end t ok (end_of t s.pc) p.inside p.end_kind ∙ ap (loops_at t) p.end_body))
                      (opened_later (opening s.pc 0) st.opened);
                };
            further = inl (omega arith, no_turn_made s.pc s.openings);
          })
      go (faults k q) = let h : stop _ ≡ on s₁ = sym q ∙ e in let z : ◌≡◌ {A = ℕ} 0 1 = cc in absurd (omega arith)
      go (turns k env q) =
          let b = S.end_of_lem s.pc l k in
          let b1 = b.1 in
          let f = S.loop_first (body_of t s.pc) (omega arith) b.0 in
          let p = (S.loop_span (body_of t s.pc) (omega arith) b.0).inside in
          let all = subst (AllOpened s.openings) (end_loops s.pc l k) st.opened in
          so q (record {
            stands =
                record {
                  below = let f1 = f.1 in omega arith;
                  opened = subst (AllOpened (one_turn (body_of t s.pc) s.openings)) (sym (loops_in_body t (body_of t s.pc) b.0)) (all_turned (body_of t s.pc) all);
                };
            further = inr (turn_counts (body_of t s.pc) (first_opened all));
          })
      go (leaves k env q) =
          so q (record {
            stands =
                record {
                  below = omega arith;
                  opened = subst (AllOpened s.openings) (sym (loops_after_end t ok s.pc l k)) (rest_opened (subst (AllOpened s.openings) (end_loops s.pc l k) st.opened));
                };
            further = inl (omega arith, refl);
          })

  -- a step that goes on is of a row
  pub on_below : (s s₁ : State) → step t s ≡ on s₁ → s.pc < size t
  on_below s s₁ e =
      elim (dec_lt s.pc (size t)) [
        | yes l ↦ l
        | no n ↦ (let h = sym (step_past t s (omega arith)) ∙ e in let z : ◌≡◌ {A = ℕ} 0 1 = cc in absurd (omega arith))
      ]

  pub reach_stands : {a b : State} → Reach t a b → Standing t a.pc a.openings → Standing t b.pc b.openings
  reach_stands here st = st
  reach_stands {a} {b} (then {s₁ = s₁} e p) st = reach_stands p (step_further a s₁ st (on_below a s₁ e) e).stands
