-- The answers of naming, path by path: what each `return` of the code has to show.
-- Assumes nothing.
use Prim.Native.Nat.{ℕ, ◌*◌, ◌<◌, ◌≤◌}
use mathlib.Core.Path.{◌≡◌, refl, sym, ap, ◌∙◌}
use mathlib.Core.Bool.{Bool, true, false, cond, ◌&&◌}
use mathlib.Core.List.{List}
use native.Mathlib.Omega.{arith}
use borrow.Author.Tests.{ne_eqb, le-leb, lt-leb}
use lib.Dec.{leb}
use lib.ListN.{length}
use lib.Seq.{sets}
use Rattle.table.specs.Rows.{size}
use Rattle.table.specs.Check.{Refusal, answer, table_refusal}
use Rattle.lowered.specs.Lower.{node_total, wire_total}
use Rattle.lowered.specs.Room.{in_limits, refused_by}
use Rattle.carrying.specs.Checked.{and_false, fitting, refused_by_lem, passed_by}
use Rattle.measuring.specs.Ready.{Ready}
use Rattle.naming.specs.Names.{node_names, wire_names}
use Rattle.naming.specs.Carried.{UsesRight}
use Rattle.naming.specs.Answers.{names_fit, name_refusal, named, name_answer, names_after, NameAnswer}
use Rattle.naming.specs.Beside.{names_long}

-- enough lent words for the names
pub words_fit : (t : List ℕ) {N W p q : ℕ} (x y : ℕ) → N ≡ node_total t → W ≡ wire_total t → p ≡ N → q ≡ W → 3 * p ≤ x → 3 * q ≤ y → (length (node_names t) ≤ x) × (length (wire_names t) ≤ y)
words_fit t x y a b c d h k = let e = (names_long t).0 in let f = (names_long t).1 in (omega arith, omega arith)

pub uses_known : {t rows outs uses free : List ℕ} → Ready t rows outs uses free → UsesRight t uses
uses_known Y = record { small = Y.uses_small; right = Y.uses_right }

module _ (t : List ℕ) {k r : ℕ} (e : answer k r ≡ table_refusal t) (nodes wires : List ℕ) where
  refused : {number row : ℕ} → answer number row ≡ name_refusal t (length nodes) (length wires) → (number ≡ 0 → ⊥) → {a b n w : ℕ} → named a b n w ≡ named number row 0 0
      → NameAnswer t nodes wires a b n w nodes wires
  unfolding name_answer names_after
  refused {number} {row} h z f =
      let q : (name_refusal t (length nodes) (length wires)).number ≡ number = ap (λ (x : Refusal). x.number) (sym h) in
      let w : (name_refusal t (length nodes) (length wires)).row ≡ row = ap (λ (x : Refusal). x.row) (sym h) in
      record { answer = f ∙ rw (q, w, ne_eqb number 0 z); node_words_lem = rw (q, ne_eqb number 0 z); wire_words = rw (q, ne_eqb number 0 z) }

  pub name_refused : (k ≡ 0 → ⊥) → {a b n w : ℕ} → named a b n w ≡ named k r 0 0 → NameAnswer t nodes wires a b n w nodes wires
  unfolding name_refusal
  name_refused z f = refused (refused_by_lem t e (names_fit t (length nodes) (length wires)) z) z f

  without : {rows : ℕ} → k ≡ 0 → rows ≡ size t → names_fit t (length nodes) (length wires) ≡ false → {a b n w : ℕ} → named a b n w ≡ named 10 rows 0 0 → NameAnswer t nodes wires a b n w nodes wires
  unfolding name_refusal
  without z en h f =
      refused (ap (answer 10) en ∙ sym (passed_by t e (names_fit t (length nodes) (length wires)) z ∙ ap (λ (x : Bool). cond x (answer 0 0) (answer 10 (size t))) h)) (λ q. omega arith) f

  pub name_crowded : {why row : ℕ} → k ≡ 0 → answer why row ≡ cond (in_limits t) (answer 0 0) (answer 10 (size t)) → (why ≡ 0 → ⊥) → NameAnswer t nodes wires why row 0 0 nodes wires
  unfolding names_fit
  name_crowded {why} {row} z h n = go (in_limits t) refl
    where
      go : (b : Bool) → in_limits t ≡ b → NameAnswer t nodes wires why row 0 0 nodes wires
      go true q = absurd (n (ap (λ (x : Refusal). x.number) (h ∙ ap (λ (x : Bool). cond x (answer 0 0) (answer 10 (size t))) q)))
      go false q =
          let d = h ∙ ap (λ (x : Bool). cond x (answer 0 0) (answer 10 (size t))) q in
          let w : why ≡ 10 = ap (λ (x : Refusal). x.number) d in
          let r : row ≡ size t = ap (λ (x : Refusal). x.row) d in
          without z r (ap (λ (x : Bool). x && (leb (length (node_names t)) (length nodes) && leb (length (wire_names t)) (length wires))) q) (ap (λ (x : ℕ). named x row 0 0) w)

  pub few_nodes_lent : {rows N p : ℕ} → k ≡ 0 → rows ≡ size t → N ≡ node_total t → p ≡ N → length nodes < 3 * p → {a b n w : ℕ} → named a b n w ≡ named 10 rows 0 0 → NameAnswer t nodes wires a b n w nodes wires
  unfolding names_fit
  few_nodes_lent z en a b l f = let s = (names_long t).0 in without z en (rw (lt-leb (length (node_names t)) (length nodes) (omega arith)) (and_false (in_limits t))) f

  pub few_wires_lent : {rows W q : ℕ} → k ≡ 0 → rows ≡ size t → W ≡ wire_total t → q ≡ W → length wires < 3 * q → {a b n w : ℕ} → named a b n w ≡ named 10 rows 0 0 → NameAnswer t nodes wires a b n w nodes wires
  unfolding names_fit
  few_wires_lent z en a b l f =
      let s = (names_long t).1 in
      without z en (rw (lt-leb (length (wire_names t)) (length wires) (omega arith)) (ap (λ (x : Bool). in_limits t && x) (and_false (leb (length (node_names t)) (length nodes))) ∙ and_false (in_limits t))) f

  pub name_done : {n w : ℕ} {nodes' wires' : List ℕ} → k ≡ 0 → answer 0 0 ≡ cond (in_limits t) (answer 0 0) (answer 10 (size t)) → n ≡ node_total t → w ≡ wire_total t → (length (node_names t) ≤ length nodes) × (length (wire_names t) ≤ length wires)
      → (nodes' ≡ sets nodes 0 (node_names t)) × (wires' ≡ sets wires 0 (wire_names t)) → NameAnswer t nodes wires 0 0 n w nodes' wires'
  unfolding name_answer names_after name_refusal names_fit
  name_done z h en ew fit done =
      let room : in_limits t ≡ true = fitting (in_limits t) (size t) h in
      let fits : in_limits t && (leb (length (node_names t)) (length nodes) && leb (length (wire_names t)) (length wires)) ≡ true
      = rw (room, le-leb (length (node_names t)) (length nodes) fit.0, le-leb (length (wire_names t)) (length wires) fit.1) in
      let q : refused_by t (in_limits t && (leb (length (node_names t)) (length nodes) && leb (length (wire_names t)) (length wires))) ≡ answer 0 0
      = passed_by t e _ z ∙ ap (λ (x : Bool). cond x (answer 0 0) (answer 10 (size t))) fits in
      record { answer = rw (q, en, ew); node_words_lem = rw q done.0; wire_words = rw q done.1 }
