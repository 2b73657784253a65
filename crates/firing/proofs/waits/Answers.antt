-- `firing::waits` meets its contract. Each arm tests wires that its kind has, and `waits_is` says that this is the test on the node's view.
-- Assumes nothing.
use Rattle.firing.proofs.Waiting.{kind_is, in_graph, input_in_state, output_in_state, waits_is, later_stream_is, later_carry_is, later_invariant_is, no_kind_waits}
use native.Mathlib.Omega.{arith}
use mathlib.Core.Bool.{not}
use mathlib.Core.Path.{refl, sym, ap, ◌∙◌}
use Rattle.step.specs.Kinds.{STREAM, GATE, CARRY, INVARIANT, SPLIT, FORK, DRAIN, OP, PICK, in0, in1, in2}
use Rattle.firing.proofs.waits.Goals as goal

pub empty_at-requires : goal.empty_at-requires
empty_at-requires c = (in_graph c.args.graph.now c.args.state.now c.args.i c.row_place-at.result c.requires c.row_place-at.ensures 3 (omega arith), input_in_state c.args.graph.now c.args.state.now c.args.i c.row_place-at.result c.requires c.row_place-at.ensures STREAM (kind_is _ c.in-Ok-Stream.ensures c.in-Ok-Stream.field-0-is) in0 refl)

pub empty_at-requires-in_default : goal.empty_at-requires-in_default
empty_at-requires-in_default c = (in_graph c.args.graph.now c.args.state.now c.args.i c.row_place-at.result c.requires c.row_place-at.ensures 6 (omega arith), output_in_state c.args.graph.now c.args.state.now c.args.i c.row_place-at.result c.requires c.row_place-at.ensures STREAM (kind_is _ c.in-Ok-Stream.ensures c.in-Ok-Stream.field-0-is) refl)

pub lacks_input-requires : goal.lacks_input-requires
lacks_input-requires c = (in_graph c.args.graph.now c.args.state.now c.args.i c.row_place-at.result c.requires c.row_place-at.ensures 4 (omega arith), input_in_state c.args.graph.now c.args.state.now c.args.i c.row_place-at.result c.requires c.row_place-at.ensures GATE (kind_is _ c.in-Ok-Gate.ensures c.in-Ok-Gate.field-0-is) in0 refl, input_in_state c.args.graph.now c.args.state.now c.args.i c.row_place-at.result c.requires c.row_place-at.ensures GATE (kind_is _ c.in-Ok-Gate.ensures c.in-Ok-Gate.field-0-is) in1 refl)

pub empty_at-requires-in-0-phase : goal.empty_at-requires-in-0-phase
empty_at-requires-in-0-phase c = (in_graph c.args.graph.now c.args.state.now c.args.i c.row_place-at.result c.requires c.row_place-at.ensures 4 (omega arith), input_in_state c.args.graph.now c.args.state.now c.args.i c.row_place-at.result c.requires c.row_place-at.ensures CARRY (kind_is _ c.in-Ok-Carry.ensures c.in-Ok-Carry.field-0-is) in1 refl)

pub empty_at-requires-in-1 : goal.empty_at-requires-in-1
empty_at-requires-in-1 c = (in_graph c.args.graph.now c.args.state.now c.args.i c.row_place-at.result c.requires c.row_place-at.ensures 3 (omega arith), input_in_state c.args.graph.now c.args.state.now c.args.i c.row_place-at.result c.requires c.row_place-at.ensures CARRY (kind_is _ c.in-Ok-Carry.ensures c.in-Ok-Carry.field-0-is) in0 refl)

pub empty_at-requires-in_default-phase : goal.empty_at-requires-in_default-phase
empty_at-requires-in_default-phase c = (in_graph c.args.graph.now c.args.state.now c.args.i c.row_place-at.result c.requires c.row_place-at.ensures 5 (omega arith), input_in_state c.args.graph.now c.args.state.now c.args.i c.row_place-at.result c.requires c.row_place-at.ensures CARRY (kind_is _ c.in-Ok-Carry.ensures c.in-Ok-Carry.field-0-is) in2 refl)

pub empty_at-requires-in-0-phase-2 : goal.empty_at-requires-in-0-phase-2
empty_at-requires-in-0-phase-2 c = (in_graph c.args.graph.now c.args.state.now c.args.i c.row_place-at.result c.requires c.row_place-at.ensures 4 (omega arith), input_in_state c.args.graph.now c.args.state.now c.args.i c.row_place-at.result c.requires c.row_place-at.ensures INVARIANT (kind_is _ c.in-Ok-Invariant.ensures c.in-Ok-Invariant.field-0-is) in1 refl)

pub empty_at-requires-in_default-phase-2 : goal.empty_at-requires-in_default-phase-2
empty_at-requires-in_default-phase-2 c = (in_graph c.args.graph.now c.args.state.now c.args.i c.row_place-at.result c.requires c.row_place-at.ensures 3 (omega arith), input_in_state c.args.graph.now c.args.state.now c.args.i c.row_place-at.result c.requires c.row_place-at.ensures INVARIANT (kind_is _ c.in-Ok-Invariant.ensures c.in-Ok-Invariant.field-0-is) in0 refl)

pub lacks_input-requires-in-Ok-Split : goal.lacks_input-requires-in-Ok-Split
lacks_input-requires-in-Ok-Split c = (in_graph c.args.graph.now c.args.state.now c.args.i c.row_place-at.result c.requires c.row_place-at.ensures 4 (omega arith), input_in_state c.args.graph.now c.args.state.now c.args.i c.row_place-at.result c.requires c.row_place-at.ensures SPLIT (kind_is _ c.in-Ok-Split.ensures c.in-Ok-Split.field-0-is) in0 refl, input_in_state c.args.graph.now c.args.state.now c.args.i c.row_place-at.result c.requires c.row_place-at.ensures SPLIT (kind_is _ c.in-Ok-Split.ensures c.in-Ok-Split.field-0-is) in1 refl)

pub fork_waits-requires : goal.fork_waits-requires
fork_waits-requires c = (in_graph c.args.graph.now c.args.state.now c.args.i c.row_place-at.result c.requires c.row_place-at.ensures 6 (omega arith), input_in_state c.args.graph.now c.args.state.now c.args.i c.row_place-at.result c.requires c.row_place-at.ensures FORK (kind_is _ c.in-Ok-Fork.ensures c.in-Ok-Fork.field-0-is) in0 refl, output_in_state c.args.graph.now c.args.state.now c.args.i c.row_place-at.result c.requires c.row_place-at.ensures FORK (kind_is _ c.in-Ok-Fork.ensures c.in-Ok-Fork.field-0-is) refl)

pub empty_at-requires-in-Ok-Drain : goal.empty_at-requires-in-Ok-Drain
empty_at-requires-in-Ok-Drain c = (in_graph c.args.graph.now c.args.state.now c.args.i c.row_place-at.result c.requires c.row_place-at.ensures 3 (omega arith), input_in_state c.args.graph.now c.args.state.now c.args.i c.row_place-at.result c.requires c.row_place-at.ensures DRAIN (kind_is _ c.in-Ok-Drain.ensures c.in-Ok-Drain.field-0-is) in0 refl)

pub lacks_input-requires-in-Ok-Op : goal.lacks_input-requires-in-Ok-Op
lacks_input-requires-in-Ok-Op c = (in_graph c.args.graph.now c.args.state.now c.args.i c.row_place-at.result c.requires c.row_place-at.ensures 4 (omega arith), input_in_state c.args.graph.now c.args.state.now c.args.i c.row_place-at.result c.requires c.row_place-at.ensures OP (kind_is _ c.in-Ok-Op.ensures c.in-Ok-Op.field-0-is) in0 refl, input_in_state c.args.graph.now c.args.state.now c.args.i c.row_place-at.result c.requires c.row_place-at.ensures OP (kind_is _ c.in-Ok-Op.ensures c.in-Ok-Op.field-0-is) in1 refl)

pub lacks_input-requires-in-Ok-Pick : goal.lacks_input-requires-in-Ok-Pick
lacks_input-requires-in-Ok-Pick c = (in_graph c.args.graph.now c.args.state.now c.args.i c.row_place-at.result c.requires c.row_place-at.ensures 4 (omega arith), input_in_state c.args.graph.now c.args.state.now c.args.i c.row_place-at.result c.requires c.row_place-at.ensures PICK (kind_is _ c.in-Ok-Pick.ensures c.in-Ok-Pick.field-0-is) in0 refl, input_in_state c.args.graph.now c.args.state.now c.args.i c.row_place-at.result c.requires c.row_place-at.ensures PICK (kind_is _ c.in-Ok-Pick.ensures c.in-Ok-Pick.field-0-is) in1 refl)

pub returns-in-0 : goal.returns-in-0
returns-in-0 c = record { waits = c.empty_at.ensures.empty ∙ sym (waits_is c.args.graph.now c.args.state.now c.args.i c.row_place-at.result c.requires c.row_place-at.ensures STREAM (kind_is _ c.in-Ok-Stream.ensures c.in-Ok-Stream.field-0-is) c.wide-wires.result 0 c.wide-wires.ensures.0 c.in-0.is) }

pub returns-in_default : goal.returns-in_default
returns-in_default c = record { waits = ap not c.empty_at-in_default.ensures.empty ∙ sym (later_stream_is c.args.graph.now c.args.state.now c.args.i c.row_place-at.result c.requires c.row_place-at.ensures c.wide-wires.result c.wide-wires.ensures.0 c.in_default.in_default-own.rest.1 (kind_is _ c.in-Ok-Stream.ensures c.in-Ok-Stream.field-0-is)) }

pub returns-in-Ok-Gate : goal.returns-in-Ok-Gate
returns-in-Ok-Gate c = record { waits = c.lacks_input.ensures.waits ∙ sym (waits_is c.args.graph.now c.args.state.now c.args.i c.row_place-at.result c.requires c.row_place-at.ensures GATE (kind_is _ c.in-Ok-Gate.ensures c.in-Ok-Gate.field-0-is) c.wide-wires.result _ c.wide-wires.ensures.0 refl) }

pub returns-in-0-phase : goal.returns-in-0-phase
returns-in-0-phase c = record { waits = c.empty_at-in-0-phase.ensures.empty ∙ sym (waits_is c.args.graph.now c.args.state.now c.args.i c.row_place-at.result c.requires c.row_place-at.ensures CARRY (kind_is _ c.in-Ok-Carry.ensures c.in-Ok-Carry.field-0-is) c.wide-wires.result 0 c.wide-wires.ensures.0 c.in-0-phase.is) }

pub returns-in-1 : goal.returns-in-1
returns-in-1 c = record { waits = c.empty_at-in-1.ensures.empty ∙ sym (waits_is c.args.graph.now c.args.state.now c.args.i c.row_place-at.result c.requires c.row_place-at.ensures CARRY (kind_is _ c.in-Ok-Carry.ensures c.in-Ok-Carry.field-0-is) c.wide-wires.result 1 c.wide-wires.ensures.0 c.in-1.is) }

pub returns-in_default-phase : goal.returns-in_default-phase
returns-in_default-phase c = record { waits = c.empty_at-in_default-phase.ensures.empty ∙ sym (later_carry_is c.args.graph.now c.args.state.now c.args.i c.row_place-at.result c.requires c.row_place-at.ensures c.wide-wires.result c.wide-wires.ensures.0 c.in_default-phase.in_default-phase-own.rest.0.1 (kind_is _ c.in-Ok-Carry.ensures c.in-Ok-Carry.field-0-is) c.in_default-phase.in_default-phase-own.rest.1) }

pub returns-in-0-phase-2 : goal.returns-in-0-phase-2
returns-in-0-phase-2 c = record { waits = c.empty_at-in-0-phase-2.ensures.empty ∙ sym (waits_is c.args.graph.now c.args.state.now c.args.i c.row_place-at.result c.requires c.row_place-at.ensures INVARIANT (kind_is _ c.in-Ok-Invariant.ensures c.in-Ok-Invariant.field-0-is) c.wide-wires.result 0 c.wide-wires.ensures.0 c.in-0-phase-2.is) }

pub returns-in_default-phase-2 : goal.returns-in_default-phase-2
returns-in_default-phase-2 c = record { waits = c.empty_at-in_default-phase-2.ensures.empty ∙ sym (later_invariant_is c.args.graph.now c.args.state.now c.args.i c.row_place-at.result c.requires c.row_place-at.ensures c.wide-wires.result c.wide-wires.ensures.0 c.in_default-phase-2.in_default-phase-2-own.rest.1 (kind_is _ c.in-Ok-Invariant.ensures c.in-Ok-Invariant.field-0-is)) }

pub returns-in-Ok-Split : goal.returns-in-Ok-Split
returns-in-Ok-Split c = record { waits = c.lacks_input-in-Ok-Split.ensures.waits ∙ sym (waits_is c.args.graph.now c.args.state.now c.args.i c.row_place-at.result c.requires c.row_place-at.ensures SPLIT (kind_is _ c.in-Ok-Split.ensures c.in-Ok-Split.field-0-is) c.wide-wires.result _ c.wide-wires.ensures.0 refl) }

pub returns-in-Ok-Fork : goal.returns-in-Ok-Fork
returns-in-Ok-Fork c = record { waits = c.fork_waits.ensures.waits ∙ sym (waits_is c.args.graph.now c.args.state.now c.args.i c.row_place-at.result c.requires c.row_place-at.ensures FORK (kind_is _ c.in-Ok-Fork.ensures c.in-Ok-Fork.field-0-is) c.wide-wires.result _ c.wide-wires.ensures.0 refl) }

pub returns-in-Ok-Drain : goal.returns-in-Ok-Drain
returns-in-Ok-Drain c = record { waits = c.empty_at-in-Ok-Drain.ensures.empty ∙ sym (waits_is c.args.graph.now c.args.state.now c.args.i c.row_place-at.result c.requires c.row_place-at.ensures DRAIN (kind_is _ c.in-Ok-Drain.ensures c.in-Ok-Drain.field-0-is) c.wide-wires.result _ c.wide-wires.ensures.0 refl) }

pub returns-in-Ok-Op : goal.returns-in-Ok-Op
returns-in-Ok-Op c = record { waits = c.lacks_input-in-Ok-Op.ensures.waits ∙ sym (waits_is c.args.graph.now c.args.state.now c.args.i c.row_place-at.result c.requires c.row_place-at.ensures OP (kind_is _ c.in-Ok-Op.ensures c.in-Ok-Op.field-0-is) c.wide-wires.result _ c.wide-wires.ensures.0 refl) }

pub returns-in-Ok-Pick : goal.returns-in-Ok-Pick
returns-in-Ok-Pick c = record { waits = c.lacks_input-in-Ok-Pick.ensures.waits ∙ sym (waits_is c.args.graph.now c.args.state.now c.args.i c.row_place-at.result c.requires c.row_place-at.ensures PICK (kind_is _ c.in-Ok-Pick.ensures c.in-Ok-Pick.field-0-is) c.wide-wires.result _ c.wide-wires.ensures.0 refl) }

pub returns-in-Err : goal.returns-in-Err
returns-in-Err c = record { waits = no_kind_waits c.args.graph.now c.args.state.now c.args.i c.row_place-at.result c.requires c.row_place-at.ensures (sym c.in-Err.ensures) }
