-- All names: the parts written one behind another are the names of the table's graph. Each function below has its room and what it reads.
-- Assumes nothing.
use Prim.Native.Nat.{ℕ, ◌+◌, ◌*◌, ◌<◌, ◌≤◌}
use mathlib.Core.Path.{◌≡◌, refl, sym, ap, ap₂, ◌∙◌}
use mathlib.Core.List.{List, ◌++◌}
use native.Mathlib.Omega.{arith}
use lib.ListN.{length, get_or, length-append}
use lib.Seq.{sets, length-sets}
use Rattle.step.specs.Kinds.{out0, out1}
use Rattle.graph.specs.Below.{joined}
use Rattle.structure.specs.Structure.{Structure}
use Rattle.lowered.specs.Gathered.{each}
use Rattle.lowered.specs.Lists.{has_elem}
use Rattle.lowered.specs.Roles.{op_node, stream, gate, guard, copy_split, copy_invariant, carry, arg_split, Wire, start, output}
use Rattle.lowered.specs.Lower.{roles, starts, role_outputs, wires, users, plain_nodes, plain_wires}
use Rattle.laid.specs.Indexed.{each_append}
use Rattle.carrying.specs.Kept.{Passing}
use Rattle.carrying.specs.Checked.{structure_of}
use Rattle.naming.specs.Names.{role_name, wire_what, wire_name, fork_names, leg_names, node_names, wire_names}
use Rattle.naming.specs.Parts.{row_names, start_names, output_names_by, fork_names_by, leg_names_by}
use Rattle.naming.specs.Carried.{UsesRight}
use Rattle.naming.specs.Beside.{roles_long, wires_long}
use Rattle.naming.proofs.Parts.{roles_by_parts, starts_by_parts, Begins, begins, outputs_read, forks_read, legs_read}
use Rattle.naming.proofs.Writing.{two_written}

what_small : (w : Wire) → wire_what w ≤ 12
what_small (start r) = omega arith
what_small (output (op_node r) out0) = omega arith
what_small (output (op_node r) out1) = omega arith
what_small (output (stream L) out0) = omega arith
what_small (output (stream L) out1) = omega arith
what_small (output (gate L) out0) = omega arith
what_small (output (gate L) out1) = omega arith
what_small (output (guard L) out0) = omega arith
what_small (output (guard L) out1) = omega arith
what_small (output (copy_split L v) out0) = omega arith
what_small (output (copy_split L v) out1) = omega arith
what_small (output (copy_invariant L v) out0) = omega arith
what_small (output (copy_invariant L v) out1) = omega arith
what_small (output (carry a) out0) = omega arith
what_small (output (carry a) out1) = omega arith
what_small (output (arg_split a) out0) = omega arith
what_small (output (arg_split a) out1) = omega arith

module _ (t : List ℕ) (n : ℕ) (P : Passing t n) (nodes wires' : List ℕ) (room : length (node_names t) ≤ length nodes) (room' : length (wire_names t) ≤ length wires') where
  rows_are : joined (row_names t) n ≡ each role_name (roles t)
  rows_are = ap (joined (row_names t)) P.rows ∙ sym (roles_by_parts t)

  starts_are : joined (start_names t) n ≡ each wire_name (starts t)
  starts_are = ap (joined (start_names t)) P.rows ∙ sym (starts_by_parts t)

  plain_are : each wire_name (wires t) ≡ each wire_name (starts t) ++ each wire_name (each (role_outputs t) (roles t))
  unfolding wires
  plain_are = each_append wire_name (starts t) (each (role_outputs t) (roles t))

  nodes_fit : length (each role_name (roles t)) + length (each (λ w. fork_names w (users t w)) (wires t)) ≤ length nodes
  unfolding node_names
  nodes_fit = let a = length-append (each role_name (roles t)) (each (λ w. fork_names w (users t w)) (wires t)) in omega arith

  wires_fit : length (each wire_name (wires t)) + length (each (λ w. leg_names w (users t w)) (wires t)) ≤ length wires'
  unfolding wire_names
  wires_fit = let a = length-append (each wire_name (wires t)) (each (λ w. leg_names w (users t w)) (wires t)) in omega arith

  starts_fit : length (each wire_name (starts t)) + length (each wire_name (each (role_outputs t) (roles t))) ≤ length wires'
  starts_fit =
      let a = length-append (each wire_name (starts t)) (each wire_name (each (role_outputs t) (roles t))) in
      let b = ap length plain_are in
      let c = wires_fit in
      omega arith

  pub rows_room : length (joined (row_names t) n) ≤ length nodes
  rows_room = let e = ap length rows_are in let f = nodes_fit in omega arith

  pub starts_room : length (joined (start_names t) n) ≤ length wires'
  starts_room = let e = ap length starts_are in let f = starts_fit in omega arith

  -- behind the rows and the starts
  module _ {plain behind : ℕ} {nodes₁ wires₁ : List ℕ} (ep : plain ≡ plain_nodes t) (en : nodes₁ ≡ sets nodes 0 (joined (row_names t) n)) (eb : behind ≡ length (joined (start_names t) n))
      (ew : wires₁ ≡ sets wires' 0 (joined (start_names t) n)) where
    plain_named : Begins role_name (roles t) nodes₁
    plain_named = let f = nodes_fit in begins role_name (roles t) nodes (λ r. refl) (omega arith) (en ∙ ap (sets nodes 0) rows_are)

    outputs_are : joined (output_names_by nodes₁) plain ≡ each wire_name (each (role_outputs t) (roles t))
    outputs_are = ap (joined (output_names_by nodes₁)) ep ∙ outputs_read t nodes₁ plain_named

    same_nodes : length nodes₁ ≡ length nodes
    same_nodes = ap length en ∙ length-sets nodes 0 (joined (row_names t) n)

    same_wires : length wires₁ ≡ length wires'
    same_wires = ap length ew ∙ length-sets wires' 0 (joined (start_names t) n)

    pub plain_there : 3 * plain ≤ length nodes₁
    plain_there = let l = roles_long t in let f = nodes_fit in let s = same_nodes in omega arith

    pub outputs_room : behind + length (joined (output_names_by nodes₁) plain) ≤ length wires₁
    outputs_room = let a = ap length outputs_are in let b = ap length starts_are in let f = starts_fit in let s = same_wires in omega arith

    -- behind the outputs
    module _ {sources : ℕ} {wires₂ uses : List ℕ} (es : sources ≡ plain_wires t) (few : sources ≤ 8192) (U : UsesRight t uses)
        (ew₂ : wires₂ ≡ sets wires₁ behind (joined (output_names_by nodes₁) plain)) where
      wires_are : wires₂ ≡ sets wires' 0 (each wire_name (wires t))
      wires_are =
          two_written (joined (start_names t) n) (joined (output_names_by nodes₁) plain) wires' 0 behind ew ew₂ (omega arith)
          ∙ ap (sets wires' 0) (ap₂ {C = List ℕ} (λ a b. a ++ b) starts_are outputs_are ∙ sym plain_are)

      wires_named : Begins wire_name (wires t) wires₂
      wires_named = let f = wires_fit in begins wire_name (wires t) wires' (λ w. refl) (omega arith) wires_are

      same_wires₂ : length wires₂ ≡ length wires'
      same_wires₂ = ap length wires_are ∙ length-sets wires' 0 (each wire_name (wires t))

      S : Structure t
      S = structure_of t n P

      forks_are : joined (fork_names_by wires₂ uses) sources ≡ each (λ w. fork_names w (users t w)) (wires t)
      forks_are = ap (joined (fork_names_by wires₂ uses)) es ∙ forks_read t S wires₂ uses wires_named U.right (omega arith)

      legs_are : joined (leg_names_by wires₂ uses) sources ≡ each (λ w. leg_names w (users t w)) (wires t)
      legs_are = ap (joined (leg_names_by wires₂ uses)) es ∙ legs_read t S wires₂ uses wires_named U.right (omega arith)

      pub wires_there : 3 * sources ≤ length wires₂
      wires_there = let l = wires_long t in let f = wires_fit in let s = same_wires₂ in omega arith

      pub whats_small : (w : ℕ) → w < sources → get_or wires₂ (3 * w) 0 ≤ 12
      unfolding plain_wires
      whats_small w h =
          let m = has_elem (wires t) w (omega arith) in
          let z : 3 * w ≡ 3 * w + 0 = omega arith in
          let e : get_or wires₂ (3 * w) 0 ≡ wire_what m.0 = ap (λ (p : ℕ). get_or wires₂ p 0) z ∙ wires_named.word w 0 m.0 m.1 (omega arith) in
          let s = what_small m.0 in
          omega arith

      pub forks_room : 3 * plain + length (joined (fork_names_by wires₂ uses) sources) ≤ length nodes₁
      forks_room = let a = ap length forks_are in let l = roles_long t in let f = nodes_fit in let s = same_nodes in omega arith

      pub legs_room : 3 * sources + length (joined (leg_names_by wires₂ uses) sources) ≤ length wires₂
      legs_room = let a = ap length legs_are in let l = wires_long t in let f = wires_fit in let s = same_wires₂ in omega arith

      -- ALL NAMES ARE WRITTEN
      pub all_named : {nodes₂ wires₃ : List ℕ} → nodes₂ ≡ sets nodes₁ (3 * plain) (joined (fork_names_by wires₂ uses) sources)
          → wires₃ ≡ sets wires₂ (3 * sources) (joined (leg_names_by wires₂ uses) sources) → (nodes₂ ≡ sets nodes 0 (node_names t)) × (wires₃ ≡ sets wires' 0 (wire_names t))
      unfolding node_names wire_names
      all_named hn hw =
          let l = roles_long t in
          let m = wires_long t in
          let r = ap length rows_are in (
            two_written (joined (row_names t) n) (joined (fork_names_by wires₂ uses) sources) nodes 0 (3 * plain) en hn (omega arith)
                ∙ ap (sets nodes 0) (ap₂ {C = List ℕ} (λ a b. a ++ b) rows_are forks_are),
            two_written (each wire_name (wires t)) (joined (leg_names_by wires₂ uses) sources) wires' 0 (3 * sources) wires_are hw (omega arith)
                ∙ ap (λ (x : List ℕ). sets wires' 0 (each wire_name (wires t) ++ x)) legs_are,
          )
