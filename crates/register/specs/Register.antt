-- The register, docs/RULES.md, its last section: P1 to P12 as one table with one statement, 'about the definitions themselves'.
--
--   register              the cases: what the rules give, and what the register prints
--   register_holds        each case comes out as printed
--
-- A machine's case shows the words given on each output, then that nothing is left on its inputs and that it is in its first phase with
-- empty registers. Letters are written A = 1 to H = 8, T = 1 and F = 0. A table's case shows the answer, the node and the firings of its
-- run, then the words that its results hold.
-- Assumes nothing.
use Rattle.std.specs.Prelude.{ℕ, ◌+◌, ◌*◌, ◌≡◌, List, [], ◌∷◌}
use Rattle.word.specs.Words.{condition, update}
use Rattle.step.specs.Kinds.{STREAM, GATE, CARRY, INVARIANT}
use Rattle.step.specs.Machines.{step}
use Rattle.graph.specs.SumGraph.{sum_graph}
use Rattle.table.specs.Cases.{sum_table, sum_by, p12_table}
use Rattle.lowered.specs.Lower.{lowered_words}
use Rattle.lowered.specs.Cases.{sum_table_lowers_to_the_102_words}
use Rattle.register.specs.Runs.{ran, p10, p11, zero_step_lem, p12}
use Rattle.register.specs.Drive.{drive, start, shown}

-- what the rules give, and what is printed
pub record Case : Type 0 where
  pub given : List (List ℕ)
  pub printed : List (List ℕ)

-- a machine that has given these words and is at rest, with nothing left
abbrev rests : List ℕ → List ℕ → List (List ℕ)
rests out0 out1 = out0 ∷ out1 ∷ [] ∷ [] ∷ [] ∷ (0 ∷ 0 ∷ 0 ∷ 0 ∷ []) ∷ []

-- more firings than any case here makes
abbrev most : ℕ
most = 40

abbrev streams : ℕ → ℕ → ℕ → ℕ → ℕ → List (List ℕ)
streams s t b u c = shown (drive STREAM (5 * u + c) most (start (s ∷ []) (t ∷ []) (b ∷ [])))

-- what the results hold, without the count of firings, which the register does not print
abbrev results : List (List ℕ) → List (List ℕ)
results [] = []
results (a ∷ rest) = rest

abbrev T : ℕ
T = 1

abbrev F : ℕ
F = 0

abbrev pub register : List Case
register =
    -- P1 from 0 by 1 to 5, `+=`, `<`
    record { given = streams 0 1 5 0 0; printed = rests (0 ∷ 1 ∷ 2 ∷ 3 ∷ 4 ∷ 5 ∷ []) (T ∷ T ∷ T ∷ T ∷ T ∷ F ∷ []) }
    -- P2 from 3 by 1 to 3, `+=`, `<`
    ∷ record { given = streams 3 1 3 0 0; printed = rests (3 ∷ []) (F ∷ []) }
    -- P3 from 16 by 1 to 1, `>>=`, `!=`
    ∷ record { given = streams 16 1 1 5 4; printed = rests (16 ∷ 8 ∷ 4 ∷ 2 ∷ 1 ∷ []) (T ∷ T ∷ T ∷ T ∷ F ∷ []) }
    -- P4 from 1 by 1 to 8, `<<=`, `<=`
    ∷ record { given = streams 1 1 8 4 1; printed = rests (1 ∷ 2 ∷ 4 ∷ 8 ∷ 16 ∷ []) (T ∷ T ∷ T ∷ T ∷ F ∷ []) }
    -- P5 from 1 by 32 to 0, `<<=`, `!=`
    ∷ record { given = streams 1 32 0 4 4; printed = rests (1 ∷ 0 ∷ []) (T ∷ F ∷ []) }
    -- P6 from 4,294,967,294 by 1 to 2, `+=`, `<`: from -2
    ∷ record { given = streams 4294967294 1 2 0 0; printed = rests (4294967294 ∷ 4294967295 ∷ 0 ∷ 1 ∷ 2 ∷ []) (T ∷ T ∷ T ∷ T ∷ F ∷ []) }
    -- P7 GATE: 'values A B C D E, conditions TTTTF'
    ∷ record {
      given = shown (drive GATE 0 most (start (1 ∷ 2 ∷ 3 ∷ 4 ∷ 5 ∷ []) (T ∷ T ∷ T ∷ T ∷ F ∷ []) []));
      printed = rests (1 ∷ 2 ∷ 3 ∷ 4 ∷ []) (T ∷ T ∷ T ∷ F ∷ []);
    }
    -- P8 CARRY: 'a A B, b C D E F G H, d TTFTTTTF'
    ∷ record {
      given = shown (drive CARRY 0 most (start (T ∷ T ∷ F ∷ T ∷ T ∷ T ∷ T ∷ F ∷ []) (1 ∷ 2 ∷ []) (3 ∷ 4 ∷ 5 ∷ 6 ∷ 7 ∷ 8 ∷ [])));
      printed = rests (1 ∷ 3 ∷ 4 ∷ 2 ∷ 5 ∷ 6 ∷ 7 ∷ 8 ∷ []) [];
    }
    -- P9 INVARIANT: 'the same a and d'
    ∷ record {
      given = shown (drive INVARIANT 0 most (start (T ∷ T ∷ F ∷ T ∷ T ∷ T ∷ T ∷ F ∷ []) (1 ∷ 2 ∷ []) []));
      printed = rests (1 ∷ 1 ∷ 1 ∷ 2 ∷ 2 ∷ 2 ∷ 2 ∷ 2 ∷ []) [];
    }
    -- P10: 'the sum table, input 5'
    ∷ record { given = ran sum_table (5 ∷ []); printed = (0 ∷ 0 ∷ 58 ∷ []) ∷ (10 ∷ []) ∷ [] }
    -- P11: 'the sum table, input 0'
    ∷ record { given = ran sum_table (0 ∷ []); printed = (0 ∷ 0 ∷ 13 ∷ []) ∷ (0 ∷ []) ∷ [] }
    -- 'Its graph has 102 words.'
    ∷ record { given = lowered_words sum_table ∷ []; printed = sum_graph ∷ [] }
    -- 'input 5 comes to ZERO STEP at node 0 after 6 firings'
    ∷ record { given = ran (sum_by 0) (5 ∷ []); printed = (1 ∷ 0 ∷ 6 ∷ []) ∷ [] ∷ [] }
    -- P12: the nested table gives 5
    ∷ record { given = results (ran p12_table []); printed = (5 ∷ []) ∷ [] }
    ∷ []

abbrev pub givens : List Case → List (List (List ℕ))
givens [] = []
givens (c ∷ cs) = c.given ∷ givens cs

abbrev pub printeds : List Case → List (List (List ℕ))
printeds [] = []
printeds (c ∷ cs) = c.printed ∷ printeds cs

-- THE STATEMENT
pub register_holds : givens register ≡ printeds register
unfolding drive step condition update
register_holds = rw (p10, p11, sum_table_lowers_to_the_102_words, zero_step_lem, p12)
