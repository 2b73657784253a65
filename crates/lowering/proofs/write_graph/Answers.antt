-- `lowering::write_graph` meets its contract. Each part stands behind the one before, and all of them are the words of the lowered table.
-- Assumes nothing.
use mathlib.Core.Path.{refl}
use native.Mathlib.Omega.{arith}
use lib.ListN.{length}
use Rattle.graph.specs.Below.{joined}
use Rattle.measuring.specs.Ready.{scratch_of}
use Rattle.forking.specs.Sorted.{outputs_fit}
use Rattle.forking.specs.Written.{row_inputs, joined_long}
use Rattle.forking.specs.Tallied.{none_tallied}
use Rattle.lowering.proofs.Whole.{rooms_of, graph_written}
use Rattle.forking.proofs.Tallies.{looser, tally_below}
use Rattle.lowering.proofs.write_graph.Goals as goal

pub four-requires : goal.four-requires
four-requires c = let p = c.requires in let k = rooms_of _ _ _ _ _ p.0 (length c.args.graph.now) p.1 p.2 in omega (arith, k.all)

pub write_starts-requires : goal.write_starts-requires
write_starts-requires c = let p = c.requires in let k = rooms_of _ _ _ _ _ p.0 (length c.args.graph.now) p.1 p.2 in
    let ks = k.starts in let kt = k.table in let ka = k.all in let l = c.four.auto.graph in let P = c.args.passed.now.passing.rows in
    (omega arith, omega arith)

pub tally_rows-requires : goal.tally_rows-requires
tally_rows-requires c = let p = c.requires in let Y = p.0 in let d = p.1.plain in let f = Y.nodes_few in
    (omega arith, λ i h. (scratch_of _ Y.structure _ _ Y.laid Y.results f Y.wires_few).sourced i (omega arith), looser none_tallied (omega arith))

pub write_results-requires : goal.write_results-requires
write_results-requires c = let p = c.requires in let Y = p.0 in let a = c.args in let k = rooms_of _ _ _ _ _ Y (length a.graph.now) p.1 p.2 in
    let kr = k.results in let kp = k.nodes in let ka = k.all in
    let d = p.1.results in
    let l = c.four.auto.graph in let m = c.write_starts.auto.graph in
    let n = joined_long (row_inputs a.rows.now) 3 (λ j. refl) c.args.sizes.now.plain in (
      omega arith,
      λ i h. (scratch_of _ Y.structure _ _ Y.laid Y.results Y.nodes_few Y.wires_few).result i (omega arith),
      tally_below {n = 30000} _ (joined (row_inputs a.rows.now) c.args.sizes.now.plain) none_tallied c.tally_rows.ensures (omega arith),
      omega arith,
    )

pub write_rows-requires : goal.write_rows-requires
write_rows-requires c = let p = c.requires in let Y = p.0 in let a = c.args in let k = rooms_of _ _ _ _ _ Y (length a.graph.now) p.1 p.2 in
    let kp = k.nodes in let ka = k.all in let d = p.1.plain in
    let l = c.four.auto.graph in let m = c.write_starts.auto.graph in let o = c.write_results.auto.graph in
    (omega arith, λ i h. (scratch_of _ Y.structure _ _ Y.laid Y.results Y.nodes_few Y.wires_few).sourced i (omega arith), looser none_tallied (omega arith), omega arith)

pub note_sorts-requires : goal.note_sorts-requires
note_sorts-requires c = let p = c.requires in let Y = p.0 in let d = p.1.plain in let f = Y.nodes_few in
    (omega arith, λ i h. outputs_fit _ _ Y.laid Y.wires_few i (omega arith))

pub overflow_add-place-3 : goal.overflow_add-place-3
overflow_add-place-3 c = let p = c.requires in let k = rooms_of _ _ _ _ _ p.0 (length c.args.graph.now) p.1 p.2 in
    let ks = k.starts in let kr = k.results in let kp = k.nodes in omega arith

pub overflow_mul-plain : goal.overflow_mul-plain
overflow_mul-plain c = let p = c.requires in let k = rooms_of _ _ _ _ _ p.0 (length c.args.graph.now) p.1 p.2 in
    let ks = k.starts in let kr = k.results in let kp = k.nodes in omega arith

pub overflow_add-place-4 : goal.overflow_add-place-4
overflow_add-place-4 c = let p = c.requires in let k = rooms_of _ _ _ _ _ p.0 (length c.args.graph.now) p.1 p.2 in
    let ks = k.starts in let kr = k.results in let kp = k.nodes in omega arith

pub write_forks-requires : goal.write_forks-requires
write_forks-requires c = let p = c.requires in let Y = p.0 in let a = c.args in let k = rooms_of _ _ _ _ _ Y (length a.graph.now) p.1 p.2 in
    let kw = k.wires in let ka = k.all in
    let l = c.four.auto.graph in let m = c.write_starts.auto.graph in let o = c.write_results.auto.graph in let q = c.write_rows.auto.graph in
    (omega arith, omega arith)

pub shape_of-graph : goal.shape_of-graph
shape_of-graph c = let l = c.four.auto.graph in let m = c.write_starts.auto.graph in let o = c.write_results.auto.graph in let q = c.write_rows.auto.graph in let r = c.write_forks.auto.graph in omega arith

pub returns : goal.returns
returns c = let a = c.args in let p = c.requires in
    graph_written a.passed.now.words.now a.rows.now a.outs.now _ _ p.0 _ _ _ _ _ _ p.1 a.graph.now _ _ _ _ _ refl refl refl
    c.four.ensures c.write_starts.ensures c.tally_rows.ensures c.write_results.ensures c.write_rows.ensures c.note_sorts.ensures c.write_forks.ensures
