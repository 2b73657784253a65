-- `forking::count_uses` meets its contract. The uses of all inputs, then of all results; then the free numbers.
-- Assumes nothing.
use Rattle.std.specs.Prelude.{replicate}
use Rattle.std.proofs.Common.{ℕ, ◌≡◌, List, refl, arith}
use Rattle.graph.specs.Below.{joined}
use Rattle.forking.specs.Tallied.{Below, tallied, none_tallied}
use Rattle.forking.specs.Written.{row_inputs, row_outs, joined_long, Scratch}
use Rattle.forking.proofs.Tallies.{looser, tally_below, all_uses}
use Rattle.forking.proofs.count_uses.Goals as goal

-- at most three uses for each node and one for each result
counted : {rows outs s1 s2 : List ℕ} {nodes results wires : ℕ} → Scratch rows nodes outs results wires → s1 ≡ tallied (replicate 8192 0) (joined (row_inputs rows) nodes)
    → s2 ≡ tallied s1 (joined (row_outs outs) results) → Below 40000 s2
counted {rows} {outs} {nodes = nodes} {results = results} s e h =
    let n = joined_long (row_inputs rows) 3 (λ j. refl) nodes in
    let m = joined_long (row_outs outs) 1 (λ j. refl) results in
    let a = s.nodes_few in
    let b = s.results_few in
    tally_below {n = 40000} _ (joined (row_outs outs) results) (tally_below {n = 20000} _ (joined (row_inputs rows) nodes) none_tallied e (omega arith)) h (omega arith)

pub tally_rows-requires : goal.tally_rows-requires
tally_rows-requires c = (c.requires.nodes_few, c.requires.sourced, looser none_tallied (omega arith))

pub tally_outs-requires : goal.tally_outs-requires
tally_outs-requires c =
    let a = c.args in
    let s = c.requires in
    let n = joined_long (row_inputs a.rows.now) 3 (λ j. refl) a.nodes in
    (s.results_few, s.result, tally_below {n = 30000} _ (joined (row_inputs a.rows.now) a.nodes) none_tallied c.tally_rows.ensures (omega arith))

pub note_free-requires : goal.note_free-requires
note_free-requires c = (c.requires.wires_few, counted c.requires c.tally_rows.ensures c.tally_outs.ensures, c.args.uses.now.low)

pub invariant_of-uses : goal.invariant_of-uses
invariant_of-uses c = record { few = counted c.requires c.tally_rows.ensures c.tally_outs.ensures; low = c.note_free.ensures.small }

pub returns : goal.returns
returns c = let a = c.args in (all_uses a.rows.now a.nodes a.outs.now a.results _ c.tally_rows.ensures c.tally_outs.ensures, c.note_free.ensures)
