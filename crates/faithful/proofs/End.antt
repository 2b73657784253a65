-- The steps of END.
--
--   step_again                another turn
--   step_leave                the loop is left
--
-- What each role does is in specs/End.
-- Assumes nothing.
use Rattle.std.specs.Prelude.{◌≡◌, refl, [], ◌∷◌, ℕ, suc, eqb}
use Rattle.word.specs.Words.{condition}
use Rattle.table.specs.Bodies.{for}
use Rattle.uses.specs.Machine.{State}
use Rattle.faithful.specs.Table.{Table}
use Rattle.faithful.specs.Good.{Good}
use Rattle.faithful.specs.Gamma.{Env, Gamma}
use Rattle.faithful.specs.Rows.{Path}
use Rattle.faithful.specs.Stages.{say_if}
use Rattle.faithful.specs.Turn.{at_an_end, turn, exit}
use Rattle.faithful.specs.Course.{made}
use Rattle.faithful.specs.End.{index, news, a1, a2, a3, l1, l2, l3, env1, repeats, leaving, env0, leaves}

module _ (tb : Table) (g : Good tb) (L s t b u c : ℕ) (q : tb.row L ≡ for s t b u c) (env : Env) (σ : State) (G : Gamma tb (tb.last L) env σ) where
  module _ (k : ℕ) (yes-turn : condition c (index tb g L s t b u c q env σ G) (env b) ≡ suc k) where
    -- THE STEP of an END, with another turn
    pub step_again : Path tb g env σ (tb.first L) (env1 tb g L s t b u c q env σ G k yes-turn) (λ M. say_if (eqb M L) (1 ∷ [])) (λ M. say_if (eqb M L) (1 ∷ []))
    step_again = made tb g L s t b u c q env at_an_end (turn (index tb g L s t b u c q env σ G) (news tb g L s t b u c q env σ G)) (a1 tb g L s t b u c q env σ G) (a2 tb g L s t b u c q env σ G) (a3 tb g L s t b u c q env σ G) (repeats tb g L s t b u c q env σ G k yes-turn) σ G (λ M. say_if (eqb M L) (1 ∷ [])) (λ M. say_if (eqb M L) (1 ∷ [])) (λ M. refl) (λ M. refl)

  module _ (no-turn : condition c (index tb g L s t b u c q env σ G) (env b) ≡ 0) where
    -- THE STEP of an END, that leaves
    pub step_leave : Path tb g env σ (suc (tb.last L)) (env0 tb g L s t b u c q env σ G no-turn) (λ M. say_if (eqb M L) (0 ∷ [])) (λ M. say_if (eqb M L) (0 ∷ []))
    step_leave = made tb g L s t b u c q env at_an_end (exit (leaving tb g L s t b u c q env σ G no-turn)) (l1 tb g L s t b u c q env σ G) (l2 tb g L s t b u c q env σ G) (l3 tb g L s t b u c q env σ G) (leaves tb g L s t b u c q env σ G no-turn) σ G (λ M. say_if (eqb M L) (0 ∷ [])) (λ M. say_if (eqb M L) (0 ∷ [])) (λ M. refl) (λ M. refl)
