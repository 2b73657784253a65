-- The steps of FOR.
--
--   step_open                 a turn starts
--   step_none                 no turn
--
-- What each role does is in specs/For.
-- Assumes nothing.
use Rattle.std.specs.Prelude.{◌≡◌, refl, ◌≢◌, [], ◌∷◌, ℕ, suc, eqb}
use Rattle.word.specs.Words.{condition}
use Rattle.table.specs.Bodies.{for}
use Rattle.uses.specs.Machine.{State}
use Rattle.faithful.specs.Table.{Table}
use Rattle.faithful.specs.Good.{Good}
use Rattle.faithful.specs.Gamma.{Env, Gamma}
use Rattle.faithful.specs.Rows.{Path, silent}
use Rattle.faithful.specs.Stages.{say_if}
use Rattle.faithful.specs.Turn.{at_a_for, turn, exit}
use Rattle.faithful.specs.Course.{made}
use Rattle.faithful.specs.For.{say_nil, initials, f1, o2, o3, n2, n3, env1, opens, exits, env0, passes}

module _ (tb : Table) (g : Good tb) (L s t b u c : ℕ) (q : tb.row L ≡ for s t b u c) (env : Env) (σ : State) (G : Gamma tb L env σ) (nz : env t ≢ 0) where
  module _ (k : ℕ) (yes-turn : condition c (env s) (env b) ≡ suc k) where
    -- THE STEP of a FOR that opens
    pub step_open : Path tb g env σ (tb.first L) (env1 tb g L s t b u c q env σ G nz k yes-turn) (λ M. say_if (eqb M L) (1 ∷ [])) (silent tb g)
    step_open = made tb g L s t b u c q env at_a_for (turn (env s) (initials tb g L s t b u c q env σ G nz)) (f1 tb g L s t b u c q env σ G nz) (o2 tb g L s t b u c q env σ G nz) (o3 tb g L s t b u c q env σ G nz) (opens tb g L s t b u c q env σ G nz k yes-turn) σ G (λ M. say_if (eqb M L) (1 ∷ [])) (silent tb g) (λ M. refl) (λ M. say_nil (eqb M L))

  module _ (no-turn : condition c (env s) (env b) ≡ 0) where
    -- THE STEP of a FOR of no turn
    pub step_none : Path tb g env σ (suc (tb.last L)) (env0 tb g L s t b u c q env σ G nz no-turn) (λ M. say_if (eqb M L) (0 ∷ [])) (silent tb g)
    step_none = made tb g L s t b u c q env at_a_for (exit (exits tb g L s t b u c q env σ G nz no-turn)) (f1 tb g L s t b u c q env σ G nz) (n2 tb g L s t b u c q env σ G nz) (n3 tb g L s t b u c q env σ G nz) (passes tb g L s t b u c q env σ G nz no-turn) σ G (λ M. say_if (eqb M L) (0 ∷ [])) (silent tb g) (λ M. refl) (λ M. say_nil (eqb M L))
