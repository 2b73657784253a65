-- What the inputs of a loop's nodes read, each by its role.
--
--   Port, port                an output of the same loop, a value that waits until the FOR or until the END, or nothing
--   PortIs, port_is           it does
--   kinds                     a role holds its record inside the loop, or holds nothing
--
-- Assumes nothing.
use Rattle.std.specs.Prelude.{◌≡◌, refl, ◌⊎◌, true, ℕ, eqb}
use Rattle.std.proofs.Common.{ap, ◌∙◌, inl, inr}
use Rattle.step.specs.Kinds.{Input, in0, in1, in2, Output, out0, out1}
use Rattle.step.specs.Machines.{rest}
use Rattle.table.specs.Bodies.{for}
use Rattle.lowered.specs.Roles.{Role, op_node, stream, gate, guard, copy_split, copy_invariant, carry, arg_split, into}
use Rattle.faithful.specs.Table.{Table, val, absent, named, IsFor, slot, is_arg}
use Rattle.faithful.specs.Good.{Good}
use Rattle.faithful.specs.Gamma.{Env, scope, held}
use Rattle.faithful.specs.Members.{in_loop, eqb_yes, two_in, arg_in}
use Rattle.faithful.specs.Stages.{Link, by_role}
use Rattle.faithful.specs.Turn.{From, at_a_for, at_an_end, row_of, body_of}

pub data Port : Type 0 where
  link : Role → Output → Port
  waits : From → ℕ → Port
  nothing : Port

-- s, t and b are what the FOR names
module _ (tb : Table) (s t b : ℕ) where
  abbrev pub port : Role → Input → Port
  port (op_node r) k = nothing
  port (stream M) in0 = waits at_a_for s
  port (stream M) in1 = waits at_a_for t
  port (stream M) in2 = waits at_a_for b
  port (gate M) in0 = link (stream M) out0
  port (gate M) in1 = link (stream M) out1
  port (gate M) in2 = nothing
  port (guard M) in0 = waits at_a_for s
  port (guard M) in1 = waits at_a_for b
  port (guard M) in2 = nothing
  port (copy_split M v) in0 = link (guard M) out0
  port (copy_split M v) in1 = waits at_a_for v
  port (copy_split M v) in2 = nothing
  port (copy_invariant M v) in0 = link (gate M) out1
  port (copy_invariant M v) in1 = link (copy_split M v) out0
  port (copy_invariant M v) in2 = nothing
  port (carry a) in0 = link (stream (tb.loop a)) out1
  port (carry a) in1 = waits at_a_for (named (tb.row a))
  port (carry a) in2 = waits at_an_end (named (tb.row (tb.next_of a)))
  port (arg_split a) in0 = link (stream (tb.loop a)) out1
  port (arg_split a) in1 = link (carry a) out0
  port (arg_split a) in2 = nothing

module _ (tb : Table) (g : Good tb) (L s t b u c : ℕ) (q : tb.row L ≡ for s t b u c) where
  abbrev isfor : IsFor tb L
  isfor = (s, t, b, u, c, q)

  abbrev pub PortIs : Role → Input → Port → Type 0
  PortIs n k (link m o) = Link tb g L isfor n k m o
  PortIs n k (waits at v) = slot tb (into n k) ≡ val v (body_of tb L at) (row_of tb L at)
  PortIs n k nothing = slot tb (into n k) ≡ absent

  ports : (n : Role) → in_loop tb L n ≡ true → PortIs n in0 (port tb s t b n in0) × PortIs n in1 (port tb s t b n in1) × PortIs n in2 (port tb s t b n in2)
  ports =
      by_role tb g L isfor (λ (n : Role). PortIs n in0 (port tb s t b n in0) × PortIs n in1 (port tb s t b n in1) × PortIs n in2 (port tb s t b n in2))
      (rw q, rw q, rw q)
      (record { reads = rw q; node_in = eqb_yes L; from_in = eqb_yes L }, record { reads = rw q; node_in = eqb_yes L; from_in = eqb_yes L }, rw q)
      (rw q, rw q, rw q)
      (λ v h. (record { reads = rw h; node_in = two_in tb L v h; from_in = eqb_yes L }, rw h, rw h))
      (λ v h. (record { reads = rw h; node_in = two_in tb L v h; from_in = eqb_yes L }, record { reads = rw h; node_in = two_in tb L v h; from_in = two_in tb L v h }, rw h))
      (λ a i h l. (record { reads = rw h; node_in = arg_in tb L a l (ap is_arg h); from_in = of_loop l }, rw (h, l), rw (h, l)))
      (λ a i h l. (record { reads = rw h; node_in = arg_in tb L a l (ap is_arg h); from_in = of_loop l }, record { reads = rw h; node_in = arg_in tb L a l (ap is_arg h); from_in = arg_in tb L a l (ap is_arg h) }, rw h))
    where
      of_loop : {M : ℕ} → M ≡ L → eqb M L ≡ true
      of_loop e = ap (λ (z : ℕ). eqb z L) e ∙ eqb_yes L

  pub port_is : (n : Role) → in_loop tb L n ≡ true → (k : Input) → PortIs n k (port tb s t b n k)
  port_is n h in0 = (ports n h).0
  port_is n h in1 = (ports n h).1
  port_is n h in2 = (ports n h).2

  -- a role of the loop has its record in the loop's body, or holds nothing anywhere
  pub kinds : (n : Role) → in_loop tb L n ≡ true → (scope tb n ≡ L) ⊎ ((e : Env) → held tb n e ≡ rest)
  kinds =
      by_role tb g L isfor (λ (n : Role). (scope tb n ≡ L) ⊎ ((e : Env) → held tb n e ≡ rest))
      (inl refl) (inl refl) (inr (λ e. refl)) (λ v h. inr (λ e. refl)) (λ v h. inl refl) (λ a i h l. inl l) (λ a i h l. inr (λ e. refl))
