-- `firing::fire_node` meets its contract. Assumes nothing.
use Rattle.std.proofs.Common.{arith, length, ap, ◌∙◌}
use Rattle.lent.specs.Left.{left_by}
use Rattle.firing.proofs.Fired.{placed_within, stepped_is, node_waits, node_fires}
use Rattle.firing.proofs.fire_node.Goals as goal

pub act-requires : goal.act-requires
act-requires c =
    let n = c.requires.node in
    let e = c.requires.size in
    let w = c.wide-wires.ensures.0 in
    (placed_within c.args.graph.now c.args.i c.row_of-row.result c.row_of-row.ensures.row (length c.args.state.now) c.requires, omega arith)

pub returns-in-Some : goal.returns-in-Some
returns-in-Some c =
    let g = c.args.graph.now in
    let s = c.args.state.now in
    let r = c.row_of-row in
    let step = stepped_is g c.args.i r.result r.ensures.row (length s) c.requires s c.wide-wires.result c.wide-wires.ensures.0 c.see-seen.result c.record_at-own.result c.see-seen.ensures.seen c.record_at-own.ensures.record in
    let effect = c.advance.ensures.firing.0 ∙ step in
    let left = c.advance.ensures.firing.1 ∙ ap (λ o. left_by o c.record_at-own.result) step in
    record { fired = node_fires g c.args.i r.result r.ensures.row (length s) c.requires s c.advance.result effect c.in-Some.done c.in-Some.is c.wide-wires.result c.wide-wires.ensures.0 c.advance.new.own c.record_at-own.result left c.act.new.state c.act.ensures.state }

pub returns-in-None : goal.returns-in-None
returns-in-None c =
    let g = c.args.graph.now in
    let s = c.args.state.now in
    let r = c.row_of-row in
    let step = stepped_is g c.args.i r.result r.ensures.row (length s) c.requires s c.wide-wires.result c.wide-wires.ensures.0 c.see-seen.result c.record_at-own.result c.see-seen.ensures.seen c.record_at-own.ensures.record in
    let effect = c.advance.ensures.firing.0 ∙ step in
    record { fired = node_waits g c.args.i s c.advance.result effect c.in-None.is }
