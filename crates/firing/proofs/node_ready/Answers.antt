-- `firing::node_ready` meets its contract. Assumes nothing.
use Rattle.std.proofs.Common.{length, ◌∙◌}
use Rattle.firing.proofs.Fired.{stepped_is, ready_is}
use Rattle.firing.proofs.node_ready.Goals as goal

pub returns : goal.returns
returns c =
    let g = c.args.graph.now in
    let s = c.args.state.now in
    let r = c.row_of-row in
    let step = stepped_is g c.args.i r.result r.ensures.row (length s) c.requires s c.wide.result c.wide.ensures.0 c.see-seen.result c.record_at-own.result c.see-seen.ensures.seen c.record_at-own.ensures.record in
    let effect = c.advance.ensures.firing.0 ∙ step in
    record { ready = c.is_some.ensures ∙ ready_is g c.args.i s c.advance.result effect }
