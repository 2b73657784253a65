-- One order on the lowered words follows the plain reading: from the freshly loaded state it spreads the starts, and then fires as the use machine
-- does.
--
--   first_state               the use machine's state when the starts are spread; it follows the reading at its beginning
--   Shows                     a list of ready firings on the words that shows a state of the use machine
--   order_shows               every path of the use machine from its first state is shown by one, which is no shorter
--
-- Assumes nothing.
use Rattle.std.specs.Prelude.{◌≡◌, refl, List, [], ◌++◌, ℕ, ◌≤◌, length}
use Rattle.std.proofs.Common.{◌∙◌}
use native.Mathlib.Omega.{arith}
use Rattle.std.proofs.Math.ListN.{length-append}
use Rattle.step.specs.Kinds.{Output}
use Rattle.step.specs.Machines.{rest}
use Rattle.graph.specs.Graph.{node_count}
use Rattle.graph.specs.Refusal.{graph_refusal}
use Rattle.state.specs.Net.{net_of}
use Rattle.state.specs.Load.{loaded}
use Rattle.confluence.specs.Statements.{Fires, put_on_wire}
use Rattle.table.specs.Rows.{size}
use Rattle.structure.specs.Structure.{Structure}
use Rattle.reading.specs.Reading.{begin, first_words}
use Rattle.lowered.specs.Roles.{Role, output}
use Rattle.lowered.specs.Lower.{wire_number, lowered_words}
use Rattle.uses.specs.Machine.{State, Steps}
use Rattle.uses.specs.Wires.{Tokens, Steps2, steps2_append, puts2, puts2_both}
use Rattle.uses.specs.Layout.{Made, Shown, run_shown}
use Rattle.uses.specs.Flat.{Rep, flat_run}
use Rattle.faithful.specs.Table.{Table, plan}
use Rattle.faithful.specs.Gamma.{Env}
use Rattle.faithful.specs.Tables.{table_of}
use Rattle.faithful.proofs.Sound.{passing_is_good}
use Rattle.faithful.specs.Conditions.{turns_of}
use Rattle.faithful.proofs.Following.{Follows}
use Rattle.faithful.specs.Begin.{begin_all, state0, shown0, gamma0}
use Rattle.faithful.specs.Finish.{Laid, Loaded, begun, first_rep}
use Rattle.faithful.proofs.Places.{layout, laid}
use Rattle.faithful.proofs.Loading.{loaded_is}

module _ (t : List ℕ) (S : Structure t) (ok : graph_refusal (lowered_words t) ≡ 0) (inputs : List ℕ) where
  abbrev tb : Table
  tb = table_of t

  abbrev g : List ℕ
  g = lowered_words t

  abbrev y : Laid tb (net_of g) (node_count g)
  y = laid t S ok

  abbrev first : Env
  first = first_words t inputs

  abbrev l : Loaded tb (net_of g) (node_count g) y first (loaded g inputs)
  l = loaded_is t S inputs ok

  abbrev pub first_state : State
  first_state = state0 tb (net_of g) y.layout first

  -- it stands where the reading begins
  pub follows_first : Follows t S (begin t inputs) first_state
  unfolding begin turns_of
  follows_first =
      let G = passing_is_good t S in
      record {
        below = omega arith;
        plain = λ i h. let a = G.arg_low 0 i h in omega arith;
        gamma = gamma0 tb (net_of g) y.layout first G;
        told = λ M m. record { opened = λ i. absurd (let a = G.for_first M m in let b = i.0 in omega arith); shut = λ _. (refl, refl) };
      }

  -- a list of ready firings that shows a state of the use machine, with its words on the loops' conditions
  pub record Shows (there : State) : Type 0 where
    pub order : List ℕ
    pub state : List ℕ
    pub tokens : Tokens
    pub fires : Fires g order (loaded g inputs) state
    pub flat : Rep (node_count g) (net_of g) state tokens
    pub shown : Shown (plan tb) (net_of g) y.layout tokens there
    pub words : (n : Role) (o : Output) → Made (plan tb) (output n o) → put_on_wire g order (loaded g inputs) (wire_number t (output n o)) ≡ there.hist n o

  -- the starts put nothing on a node's output, so its words are those of the path
  after_starts : (xs ys : List ℕ) (Z U X : Tokens) (p : Steps2 (net_of g) xs Z U) (q : Steps2 (net_of g) ys U X) (w : ℕ) (put said : List ℕ)
      → put ≡ puts2 (net_of g) (xs ++ ys) Z X (steps2_append (net_of g) xs ys Z U X p q) w → puts2 (net_of g) xs Z U p w ≡ [] → puts2 (net_of g) ys U X q w ≡ said → put ≡ said
  after_starts xs ys Z U X p q w put said e a b = e ∙ puts2_both (net_of g) xs ys Z U X p q w [] said a b

  pub order_shows : (path : List Role) (there : State) → Steps (plan tb) path first_state there → (x : Shows there) × (length path ≤ length x.order)
  unfolding laid layout
  order_shows path there P =
      let N = net_of g in
      let Z : Tokens = record { wt = l.cell; wr = λ j. rest } in
      let a = begin_all tb N y.layout first (size t) 0 (omega arith) Z (begun tb N (node_count g) y first (loaded g inputs) l) in
      let r = run_shown (plan tb) N y.layout path a.1 first_state there (shown0 tb N y.layout first a.1 a.3) P in
      let q = steps2_append N a.0 r.0 Z a.1 r.1 a.2 r.2 in
      let f = flat_run (node_count g) N y.wired (a.0 ++ r.0) (loaded g inputs) Z r.1 y.node_below_lem (first_rep tb N (node_count g) y first (loaded g inputs) l) q in
      let n = r.5 in
      let c = length-append a.0 r.0 in (
        record {
          order = a.0 ++ r.0;
          state = f.0;
          tokens = r.1;
          fires = f.1;
          flat = f.2;
          shown = r.3;
          words = λ n o m.
              after_starts a.0 r.0 Z a.1 r.1 a.2 r.2 (y.layout.ww (output n o)) (put_on_wire g (a.0 ++ r.0) (loaded g inputs) (wire_number t (output n o))) (there.hist n o)
              (f.3 (y.layout.ww (output n o))) (a.4 n o m) (r.4 n o m);
        },
        omega arith,
      )
