-- What the inner functions of a firing promise one another.
--
--   InState                   a place's wire is in the state, where the node has the place
--   act_stores                the stores of an act on the wires of a row, with the record left
--   Reads                     a row struct holds the words of node i, and the wire on each of its places
--   Within, Sees              the wires of a row are in the state; what is seen there
--   Placed                    what a caller of `fire_node` has checked: the graph's shape, that node i is one of its nodes, that its wires are
--                             wires, and the state's length
--
-- Assumes nothing.
use Rattle.std.specs.Prelude.{ℕ, ◌+◌, ◌*◌, ◌<◌, ◌≡◌, ⊤, false, List, ◌++◌, get_or, Option as Maybe, None, Some}
use Rattle.std.proofs.Math.Option.{some}
use Rattle.step.specs.Kinds.{Input, in0, in1, in2, Output, out0, out1}
use Rattle.step.specs.Shown.{given}
use Rattle.step.specs.declared.Act.{Act}
use Rattle.step.specs.declared.Record.{Record}
use Rattle.step.specs.declared.Seen.{Seen}
use Rattle.graph.specs.Graph.{node_count, wire_count, row_place, input_at, output_at}
use Rattle.graph.specs.Refusal.{Shaped}
use Rattle.state.specs.State.{Stores, emptied, filled, kept, token_on, has_room}
use Rattle.firing.specs.declared.Row.{Row}

-- a place that a node may not have: its wire, if it has one, is in the state
abbrev pub InState : Maybe ℕ → ℕ → Type 0
InState None len = ⊤
InState (Some w) len = 2 * w + 1 < len

abbrev pub act_stores : Row → Act → Record → ℕ → ℕ → Stores
act_stores r a left W i =
    emptied (given r.inputs 0) (get_or a.takes 0 false)
    ++ (emptied (given r.inputs 1) (get_or a.takes 1 false)
    ++ (emptied (given r.inputs 2) (get_or a.takes 2 false)
    ++ (filled (given r.outputs 0) (given a.gives 0)
    ++ (filled (given r.outputs 1) (given a.gives 1)
    ++ kept W i left))))

pub record Reads (g : List ℕ) (i : ℕ) (r : Row) : Type 0 where
  pub kind : r.kind ≡ get_or g (row_place g i) 0
  pub code : r.code ≡ get_or g (row_place g i + 1) 0
  pub sort : r.sort ≡ get_or g (row_place g i + 2) 0
  pub input0 : given r.inputs 0 ≡ input_at g i in0
  pub input1 : given r.inputs 1 ≡ input_at g i in1
  pub input2 : given r.inputs 2 ≡ input_at g i in2
  pub output0 : given r.outputs 0 ≡ output_at g i out0
  pub output1 : given r.outputs 1 ≡ output_at g i out1

pub record Within (r : Row) (len : ℕ) : Type 0 where
  pub input0 : InState (get_or r.inputs 0 None) len
  pub input1 : InState (get_or r.inputs 1 None) len
  pub input2 : InState (get_or r.inputs 2 None) len
  pub output0 : InState (get_or r.outputs 0 None) len
  pub output1 : InState (get_or r.outputs 1 None) len

pub record Sees (s : List ℕ) (r : Row) (v : Seen) : Type 0 where
  pub input0 : given v.inputs 0 ≡ token_on s (given r.inputs 0)
  pub input1 : given v.inputs 1 ≡ token_on s (given r.inputs 1)
  pub input2 : given v.inputs 2 ≡ token_on s (given r.inputs 2)
  pub output0 : get_or v.room 0 false ≡ has_room s (given r.outputs 0)
  pub output1 : get_or v.room 1 false ≡ has_room s (given r.outputs 1)

pub record Placed (g : List ℕ) (i len : ℕ) : Type 0 where
  pub shaped : Shaped g
  pub node : i < node_count g
  pub ins : (k : Input) (w : ℕ) → input_at g i k ≡ some w → w < wire_count g
  pub outs : (k : Output) (w : ℕ) → output_at g i k ≡ some w → w < wire_count g
  pub size : len ≡ 2 * wire_count g + 4 * node_count g
