-- The nodes of a table before forks, by number: what a program lays down first.
--
--   input_number          the number of an input's source; X where there is no such input
--   plain_node            a node with its sources' numbers for inputs
--   RowIs                 seven words are a node's
--   Laid, Outs            rows hold every node before forks; words hold the sources of the results
--
-- Assumes nothing.
use Rattle.std.specs.Prelude.{ℕ, ◌+◌, ◌*◌, ◌≡◌, List, length, get_or}
use Rattle.std.proofs.Math.Option.{Option, none, some}
use Rattle.std.proofs.Math.ListN.{get_elem?}
use Rattle.step.specs.Kinds.{Input, in0, in1, in2, out0}
use Rattle.graph.specs.Graph.{Node, absent}
use Rattle.lowered.specs.Roles.{Role, Wire, output, into, result}
use Rattle.lowered.specs.Sources.{source}
use Rattle.lowered.specs.Lower.{roles, role_kind, role_code, role_sort, wire_number, out_rows, kind_number}
use Rattle.laid.specs.Counts.{source_number}

abbrev pub number_or : List ℕ → Option Wire → ℕ
number_or t none = absent
number_or t (some w) = wire_number t w

unfoldable pub input_number : List ℕ → Role → Input → ℕ
input_number t n k = number_or t (source t (into n k))

abbrev pub plain_node : List ℕ → Role → Node
plain_node t n =
    record {
      kind = role_kind t n;
      code = role_code t n;
      sort = role_sort t n;
      wire0 = input_number t n in0;
      wire1 = input_number t n in1;
      wire2 = input_number t n in2;
      first = wire_number t (output n out0);
    }

-- row i of some rows of seven words is this node
pub record RowIs (rows : List ℕ) (i : ℕ) (nd : Node) : Type 0 where
  pub kind : get_or rows (7 * i) 0 ≡ kind_number nd.kind
  pub code : get_or rows (7 * i + 1) 0 ≡ nd.code
  pub sort : get_or rows (7 * i + 2) 0 ≡ nd.sort
  pub in0 : get_or rows (7 * i + 3) 0 ≡ nd.wire0
  pub in1 : get_or rows (7 * i + 4) 0 ≡ nd.wire1
  pub in2 : get_or rows (7 * i + 5) 0 ≡ nd.wire2
  pub first : get_or rows (7 * i + 6) 0 ≡ nd.first

-- row i is right, whatever node has this number
abbrev pub RightRow : List ℕ → List ℕ → ℕ → Type 0
RightRow t rows i = (n : Role) → get_elem? (roles t) i ≡ some n → RowIs rows i (plain_node t n)

pub record Laid (t rows : List ℕ) : Type 0 where
  pub long : length rows ≡ 28672
  pub row : (i : ℕ) → RightRow t rows i

-- the sources of the results, OUT row by OUT row
pub record Outs (t outs : List ℕ) : Type 0 where
  pub long : length outs ≡ 512
  pub out : (i q : ℕ) → get_elem? (out_rows t) i ≡ some q → get_or outs i 0 ≡ source_number t (result q)
