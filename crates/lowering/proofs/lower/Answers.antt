-- `lowering::lower` meets its contract. 1 to 9 by the rows, then 10 by the counts or the lent words; else the graph is written.
-- Assumes nothing.
use Rattle.std.proofs.Common.{ℕ, ◌≡◌, refl, sym, ap, ◌∙◌, subst, List, arith}
use Rattle.std.specs.Prelude.{Result, Err}
use Rattle.refusal.specs.Numbers.{number_of, refused_number, refused_row, number_above, passed_on}
use Rattle.refusal.specs.declared.Refused.{Refused}
use Rattle.table.specs.Rows.{size}
use Rattle.lowering.specs.Answers.{LowerAnswer, written}
use Rattle.lowering.proofs.Answers.{words_are, lower_refused, lower_crowded, lower_lent, lower_done}
use Rattle.lowering.proofs.lower.Goals as goal

-- a refusal that is passed on leaves the lent words
passed : (t lent : List ℕ) (r : Result ℕ Refused) (e : Refused) → r ≡ Err e → LowerAnswer t lent (number_of e.why) e.row 0 lent → LowerAnswer t lent (refused_number r) (refused_row r) (written r) lent
passed t lent r e q a = subst (λ (x : Result ℕ Refused). LowerAnswer t lent (refused_number x) (refused_row x) (written x) lent) (sym q) a

pub returns-in_err-passed : goal.returns-in_err-passed
returns-in_err-passed c =
    let e = c.in_err-passed.field-0.0 in
    record { answer = passed _ _ _ _ (passed_on _ _ c.from_residual.ensures.1) (lower_refused c.args.table.now c.in_err-passed.ensures.answer c.args.graph.now (λ z. let a = number_above e.why in omega arith)) }

pub returns-in_err-sizes : goal.returns-in_err-sizes
returns-in_err-sizes c =
    let w = c.in_ok-passed.ensures.words in
    let e = c.in_err-sizes.field-0.0 in
    record {
      answer = passed _ _ _ _ (passed_on _ _ c.from_residual-in_err-sizes.ensures.1)
          (lower_crowded c.args.table.now c.in_ok-passed.ensures.answer c.args.graph.now refl (rw w at c.in_err-sizes.ensures.answer) (λ z. let a = number_above e.why in omega arith));
    }

pub returns-then-graph-needed : goal.returns-then-graph-needed
returns-then-graph-needed c =
    let t = c.args.table.now in
    let w = c.in_ok-passed.ensures.words in
    let q = rw w at c.in_ok-sizes.ensures.ready in
    let P = c.in_ok-passed.passed in
    record {
      answer = lower_lent t c.in_ok-passed.ensures.answer c.args.graph.now refl (ap number_of c.crowded.ensures.0) (c.crowded.ensures.1 ∙ P.passing.rows ∙ ap size w)
          (words_are t q.1 refl refl refl) c.if-graph-needed.true;
    }

pub write_graph-requires : goal.write_graph-requires
write_graph-requires c =
    let q = c.in_ok-sizes.ensures.ready in
    let e = words_are _ q.1 refl refl refl in
    let l = c.if-graph-needed.false in
    (q.0, q.1, omega arith)

pub returns : goal.returns
returns c =
    let t = c.args.table.now in
    let w = c.in_ok-passed.ensures.words in
    let q = rw w at c.in_ok-sizes.ensures.ready in
    record {
      answer = lower_done t c.in_ok-passed.ensures.answer c.args.graph.now refl (rw w at c.in_ok-sizes.ensures.answer) (words_are t q.1 refl refl refl) c.if-graph-needed.false (rw w at c.write_graph.ensures);
    }
