-- What the check notes of a table, from row to row: the record `Noted`, and the answer that is still to come.
-- Assumes nothing.
use Prim.Native.Nat.{ℕ, suc, ◌+◌, ◌-◌, ◌*◌, ◌<◌, ◌≤◌}
use mathlib.Core.List.{List}
use mathlib.Core.Path.{◌≡◌, ap, ◌∙◌}
use native.Mathlib.Omega.{arith}
use native.Mathlib.Decide.{ℕ_discrete}
use native.Mathlib.Numerals.{add-one}
use borrow.Author.Tests.{ne_eqb, eq-eqb, ltb-true}
use lib.Dec.{eqb}
use lib.ListN.{get_or, set, length, length-set}
use lib.Seq.{get_or-set_same, get_or-set_other}
use Rattle.table.specs.Rows.{kind_at, size}
use Rattle.table.specs.Scan.{after, stack_at, inner, body_of, home_by, home}
use Rattle.table.specs.Check.{depth_right, end_right, outside, row_refusal, answer, rows_from}
use Rattle.table.specs.Bodies.{nexts_in}
use Rattle.table.specs.Clauses.{args_in, loop_detail}
use Rattle.table.specs.Right.{passing_row_is_right}
use Rattle.table.specs.Kinds.{kind_number}
use Rattle.table.specs.Telling.{loop_told}
use Rattle.table.specs.Kept.{loops_of, nowhere, Noted, Counted}
use Rattle.table.specs.declared.Kind.{Kind}
use Rattle.table.specs.declared.Kind.TheVariants.{For}
use Rattle.table.specs.declared.Innermost.{Innermost}
use Rattle.table.specs.declared.Notes.{Notes}
use Rattle.table.specs.declared.Place.{Place}
use Rattle.table.specs.declared.loops.OpenLoops.{OpenLoops}
use Rattle.table.proofs.Opened.{open_length, open_outside, counted_at}

pub size_is : (t : List ℕ) (n : ℕ) → length t ≡ 6 * n → n ≡ size t
size_is t n e = omega arith

-- a place noted for row i, behind those of the rows before
noted : (l : List Place) (i : ℕ) (x : Place) (g : Place → ℕ) (f : ℕ → ℕ) → i < length l → g x ≡ f i → ((k : ℕ) → k < i → g (get_or l k nowhere) ≡ f k) → (k : ℕ) → k < i + 1 → g (get_or (set l i x) k nowhere) ≡ f k
noted l i x g f h e all k less =
    elim (ℕ_discrete k i) [ yes q ↦ rw (q, get_or-set_same l i x nowhere h) e | no q ↦ rw (get_or-set_other l i k x nowhere q) (all k (below k q less)) ]
  where
    below : (k : ℕ) → (k ≡ i → ⊥) → k < i + 1 → k < i
    below k q less = omega arith

pub noted_more : (t : List ℕ) (i : ℕ) {notes : Notes} (kind : Kind) {h b : ℕ} (next : OpenLoops) → Noted t i notes → i < notes.size → kind_number kind ≡ kind_at t i
    → h ≡ home_by notes.size (kind_number kind) i (loops_of notes.loops) → b ≡ inner notes.size (loops_of notes.loops)
    → loops_of next ≡ after (kind_number kind) i (loops_of notes.loops)
    → Noted t (i + 1) (record { size = notes.size; before = kind; places = set notes.places i (record { home = h; body = b }); loops = next })
unfolding home body_of stack_at
noted_more t i {notes} kind {h} {b} next N l ek eh eb ea = let z : notes.size ≡ size t = size_is t notes.size N.whole in
    record {
      whole = N.whole;
      rows = N.rows;
      below = omega arith;
      long = length-set notes.places i (record { home = h; body = b }) ∙ N.long;
      loops = rw (add-one i, ← ek, ← N.loops) ea;
      before = rw (add-one i) ek;
      home_of = noted notes.places i (record { home = h; body = b }) (λ p. p.home) (home t) (omega (arith, N.long, N.rows)) (rw (← z, ← ek, ← N.loops) eh) N.home_of;
      body_of_lem = noted notes.places i (record { home = h; body = b }) (λ p. p.body) (body_of t) (omega (arith, N.long, N.rows)) (rw (← z, ← N.loops) eb) N.body_of_lem;
    }

-- a FOR that passed has room
pub room : (t : List ℕ) (i : ℕ) {notes : Notes} (kind : Kind) → Noted t i notes → kind_number kind ≡ kind_at t i → row_refusal t i ≡ 0 → kind ≡ For → notes.loops.depth < 8
unfolding depth_right
room t i {notes} kind N ek z k =
    let h : length (stack_at t i) < 8 = ltb-true _ 8 (rw (← ek, k) at (passing_row_is_right t i z).depth) in
    omega (arith, open_length notes.loops.entries notes.loops.depth, ap length N.loops)

pub few : (t : List ℕ) (i : ℕ) {notes : Notes} → Noted t i notes → Counted 512 (loops_of notes.loops)
few t i N = rw N.loops (counted_at t i 512 (omega (arith, N.below, N.rows)))

-- the innermost loop as it is told
pub loop_is : (t : List ℕ) (i f : ℕ) {notes : Notes} (x : Innermost) → Noted t i notes
    → (x.body ≡ inner notes.size (loops_of notes.loops)) × (x.args ≡ args_in (loops_of notes.loops)) × (x.nexts ≡ nexts_in (loops_of notes.loops))
    → loop_told f x ≡ loop_detail t i f
unfolding loop_detail body_of
loop_is t i f {notes} x N e = let z : notes.size ≡ size t = size_is t notes.size N.whole in rw (e.0, e.1, e.2, N.loops, z)

module _ (t : List ℕ) (n i : ℕ) where
  less : i < n → n - i ≡ suc (n - (i + 1))
  less h = omega arith

  pub rows_go : i < n → row_refusal t i ≡ 0 → rows_from (n - i) t i ≡ rows_from (n - (i + 1)) t (i + 1)
  unfolding rows_from
  rows_go h z = rw (less h, z)

  pub rows_stop : {x : ℕ} → i < n → x ≡ row_refusal t i → (x ≡ 0 → ⊥) → rows_from (n - i) t i ≡ answer x i
  unfolding rows_from
  rows_stop h e z = rw (less h, ← e, ne_eqb _ 0 z)

-- ---- behind the last row

module _ (t : List ℕ) {notes : Notes} (N : Noted t notes.size notes) where
  pub outside_is : outside (stack_at t notes.size) ≡ eqb notes.loops.depth 0
  outside_is = rw (← N.loops) (open_outside notes.loops.entries notes.loops.depth)

  pub rows_open : 0 < notes.loops.depth → rows_from 0 t notes.size ≡ answer 9 notes.size
  unfolding rows_from end_right
  rows_open h = rw (← size_is t notes.size N.whole, outside_is, ne_eqb notes.loops.depth 0 (λ q. omega arith))

  pub rows_outless : notes.loops.depth ≤ 0 → (kind_number notes.before ≡ 8 → ⊥) → rows_from 0 t notes.size ≡ answer 9 notes.size
  unfolding rows_from end_right
  rows_outless h n = let z : notes.loops.depth ≡ 0 = omega arith in rw (← size_is t notes.size N.whole, outside_is, eq-eqb notes.loops.depth 0 z, ← N.before, ne_eqb (kind_number notes.before) 8 n)

  pub rows_pass : notes.loops.depth ≤ 0 → kind_number notes.before ≡ 8 → rows_from 0 t notes.size ≡ answer 0 0
  unfolding rows_from end_right
  rows_pass h e = let z : notes.loops.depth ≡ 0 = omega arith in rw (← size_is t notes.size N.whole, outside_is, eq-eqb notes.loops.depth 0 z, ← N.before, e)
