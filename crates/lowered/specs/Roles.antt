-- The nodes, wires and uses of a lowered table, named by what they are for: docs/RULES.md, 'Nodes, row by row'.
--
--   Role                          a node, by the row it is laid down for
--   Wire, Use                     a start or an output; an input or a result
--   same_role, same_wire, same_use  whether two are the same
--
-- A carried-in value's nodes are named by the loop and the value's row. FORKs and DRAINs have no role: they follow from the uses.
-- Assumes nothing.
use Rattle.std.specs.Prelude.{ℕ, ◌≡◌, refl}
use Rattle.std.proofs.Common.{ap, ap₂, arith}
use Rattle.std.proofs.Math.Decide.{ℕ_discrete}
use Rattle.step.specs.Kinds.{Input, in0, in1, in2, Output, out0, out1}

pub data Role : Type 0 where
  -- the node of an OP or PICK row
  op_node : ℕ → Role
  -- of a loop
  stream gate guard : ℕ → Role
  -- of a loop and a value carried into it
  copy_split copy_invariant : ℕ → ℕ → Role
  -- of an ARG
  carry arg_split : ℕ → Role
  deriving Discrete as discrete_role

unfoldable pub same_role : (a b : Role) → Dec (a ≡ b)
same_role = discrete_role ℕ_discrete

-- A wire is the start of an INPUT or CONST row, or an output of a node.
pub data Wire : Type 0 where
  start : ℕ → Wire
  output : Role → Output → Wire

-- A use is an input of a node, or the result of an OUT row.
pub data Use : Type 0 where
  into : Role → Input → Use
  result : ℕ → Use

unfoldable pub same_output : (a b : Output) → Dec (a ≡ b)
same_output out0 out0 = yes refl
same_output out0 out1 = no (λ h. let z : ◌≡◌ {A = ℕ} 0 1 = cc in omega arith)
same_output out1 out0 = no (λ h. let z : ◌≡◌ {A = ℕ} 0 1 = cc in omega arith)
same_output out1 out1 = yes refl

unfoldable pub same_input : (a b : Input) → Dec (a ≡ b)
same_input in0 in0 = yes refl
same_input in0 in1 = no (λ h. let z : ◌≡◌ {A = ℕ} 0 1 = cc in omega arith)
same_input in0 in2 = no (λ h. let z : ◌≡◌ {A = ℕ} 0 1 = cc in omega arith)
same_input in1 in0 = no (λ h. let z : ◌≡◌ {A = ℕ} 0 1 = cc in omega arith)
same_input in1 in1 = yes refl
same_input in1 in2 = no (λ h. let z : ◌≡◌ {A = ℕ} 0 1 = cc in omega arith)
same_input in2 in0 = no (λ h. let z : ◌≡◌ {A = ℕ} 0 1 = cc in omega arith)
same_input in2 in1 = no (λ h. let z : ◌≡◌ {A = ℕ} 0 1 = cc in omega arith)
same_input in2 in2 = yes refl

unfoldable pub same_wire : (a b : Wire) → Dec (a ≡ b)
same_wire (start a) (start b) = elim (ℕ_discrete a b) [ yes e ↦ yes (ap start e) | no e ↦ no (λ h. e (cc)) ]
same_wire (start a) (output n o) = no (λ h. let z : ◌≡◌ {A = ℕ} 0 1 = cc in omega arith)
same_wire (output n o) (start b) = no (λ h. let z : ◌≡◌ {A = ℕ} 0 1 = cc in omega arith)
same_wire (output n o) (output m p) =
    elim (same_role n m) [
      | yes e ↦ elim (same_output o p) [ yes d ↦ yes (ap₂ output e d) | no d ↦ no (λ h. d (cc)) ]
      | no e ↦ no (λ h. e (cc))
    ]

unfoldable pub same_use : (a b : Use) → Dec (a ≡ b)
same_use (into n k) (into m l) =
    elim (same_role n m) [
      | yes e ↦ elim (same_input k l) [ yes d ↦ yes (ap₂ into e d) | no d ↦ no (λ h. d (cc)) ]
      | no e ↦ no (λ h. e (cc))
    ]
same_use (into n k) (result q) = no (λ h. let z : ◌≡◌ {A = ℕ} 0 1 = cc in omega arith)
same_use (result q) (into n k) = no (λ h. let z : ◌≡◌ {A = ℕ} 0 1 = cc in omega arith)
same_use (result q) (result r) = elim (ℕ_discrete q r) [ yes e ↦ yes (ap result e) | no e ↦ no (λ h. e (cc)) ]
