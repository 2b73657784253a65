-- `naming::name_graph` meets its contract. 1 to 9 by the rows, then 10 by the counts or the lent words; else the names are written.
-- Assumes nothing.
use Rattle.std.proofs.Common.{ℕ, ◌≡◌, refl, sym, ap, ap₂, ◌∙◌, subst, List, length, arith}
use Rattle.std.specs.Prelude.{Result, Err}
use Rattle.refusal.specs.Numbers.{number_of, refused_number, refused_row, number_above, passed_on}
use Rattle.refusal.specs.declared.Refused.{Refused}
use Rattle.table.specs.Rows.{size}
use Rattle.carrying.specs.declared.Passed.{Passed}
use Rattle.naming.specs.Answers.{named, NameAnswer}
use Rattle.naming.specs.Told.{named_nodes, named_wires}
use Rattle.naming.specs.declared.Named.{Named}
use Rattle.naming.proofs.Answers.{words_fit, uses_known, name_refused, name_crowded, few_nodes_lent, few_wires_lent, name_done}
use Rattle.naming.proofs.name_graph.Goals as goal

-- a refusal that is passed on leaves the lent words
passed : (t nodes wires : List ℕ) (r : Result Named Refused) (e : Refused) → r ≡ Err e → NameAnswer t nodes wires (number_of e.why) e.row 0 0 nodes wires
    → NameAnswer t nodes wires (refused_number r) (refused_row r) (named_nodes r) (named_wires r) nodes wires
passed t nodes wires r e q a = subst (λ (x : Result Named Refused). NameAnswer t nodes wires (refused_number x) (refused_row x) (named_nodes x) (named_wires x) nodes wires) (sym q) a

pub returns-in_err-passed : goal.returns-in_err-passed
returns-in_err-passed c =
    let a = c.args in
    let e = c.in_err-passed.field-0.0 in
    record { answer = passed _ _ _ _ _ (passed_on _ _ c.from_residual.ensures.1) (name_refused a.table.now c.in_err-passed.ensures.answer a.nodes.now a.wires.now (λ z. let x = number_above e.why in omega arith) refl) }

pub returns-in_err-sizes : goal.returns-in_err-sizes
returns-in_err-sizes c =
    let a = c.args in
    let w = c.in_ok-passed.ensures.words in
    let e = c.in_err-sizes.field-0.0 in
    record {
      answer = passed _ _ _ _ _ (passed_on _ _ c.from_residual-in_err-sizes.ensures.1)
          (name_crowded a.table.now c.in_ok-passed.ensures.answer a.nodes.now a.wires.now refl (rw w at c.in_err-sizes.ensures.answer) (λ z. let x = number_above e.why in omega arith));
    }

pub returns-then-nodes-sizes : goal.returns-then-nodes-sizes
returns-then-nodes-sizes c =
    let a = c.args in
    let w = c.in_ok-passed.ensures.words in
    let m = rw w at c.in_ok-sizes.ensures.ready in
    let P = c.in_ok-passed.passed in
    record {
      answer = few_nodes_lent a.table.now c.in_ok-passed.ensures.answer a.nodes.now a.wires.now refl (P.passing.rows ∙ ap size w) m.1.nodes refl c.if-nodes-sizes.true
          (ap₂ (λ (x y : ℕ). named x y 0 0) (ap number_of c.crowded.ensures.0) c.crowded.ensures.1);
    }

pub returns-then-wires-sizes : goal.returns-then-wires-sizes
returns-then-wires-sizes c =
    let a = c.args in
    let w = c.in_ok-passed.ensures.words in
    let m = rw w at c.in_ok-sizes.ensures.ready in
    let P = c.in_ok-passed.passed in
    let E = c.crowded-then-wires-sizes.ensures in
    record {
      answer = few_wires_lent a.table.now c.in_ok-passed.ensures.answer a.nodes.now a.wires.now refl (P.passing.rows ∙ ap size w) m.1.wires refl c.if-wires-sizes.true
          (ap₂ (λ (x y : ℕ). named x y 0 0) (ap number_of E.0) E.1);
    }

pub write_names-requires : goal.write_names-requires
write_names-requires c =
    let a = c.args in
    let w = c.in_ok-passed.ensures.words in
    let y = rw w at c.in_ok-sizes.ensures.ready in
    let m = y.1 in
    let f = words_fit a.table.now (length a.nodes.now) (length a.wires.now) m.nodes m.wires refl refl c.if-nodes-sizes.false c.if-wires-sizes.false in
    let pf = y.0.nodes_few in
    let sf = y.0.wires_few in
    let mp = m.plain in
    let ms = m.plain_wires_lem in
    let n : c.new-notes.result.passed.words.now ≡ a.table.now = ap (λ (p : Passed). p.words.now) c.new-notes.ensures ∙ w in
    rw n (uses_known y.0, m.plain, m.plain_wires_lem, omega arith, omega arith, f.0, f.1)

pub returns : goal.returns
returns c =
    let a = c.args in
    let w = c.in_ok-passed.ensures.words in
    let y = rw w at c.in_ok-sizes.ensures.ready in
    let m = y.1 in
    let f = words_fit a.table.now (length a.nodes.now) (length a.wires.now) m.nodes m.wires refl refl c.if-nodes-sizes.false c.if-wires-sizes.false in
    let n : c.new-notes.result.passed.words.now ≡ a.table.now = ap (λ (p : Passed). p.words.now) c.new-notes.ensures ∙ w in
    record { answer = name_done a.table.now c.in_ok-passed.ensures.answer a.nodes.now a.wires.now refl (rw w at c.in_ok-sizes.ensures.answer) m.nodes m.wires f (rw n at c.write_names.ensures) }
