-- `measuring::measure` meets its contract. Over a limit before forks is over it with them; else the sums are the graph's counts.
-- Assumes nothing.
use Rattle.std.proofs.Common.{[], refl, sym, ap, ◌∙◌}
use Rattle.refusal.specs.Numbers.{number_of}
use Rattle.carrying.specs.Checked.{structure_of}
use Rattle.forking.specs.Tallied.{none_tallied}
use Rattle.measuring.proofs.Counting.{crowded, few_nodes, few_wires, scratch, measured, told_crowded, told_fitting}
use Rattle.measuring.proofs.measure.Goals as goal

pub returns-then-not-in_limits-clause-answer : goal.returns-then-not-in_limits-clause-answer
returns-then-not-in_limits-clause-answer c =
    let t = c.args.passed.now.words.now in
    let D = c.lay-laid.ensures in
    let M = crowded t D.0 D.1 D.2 D.3 c.in_limits.ensures [] [] [] [] c.if-not-in_limits.true in
    told_crowded t M.room (ap number_of c.crowded.ensures.0) c.crowded.ensures.1 c.args.passed.now.passing.rows

pub count_uses-added-requires : goal.count_uses-added-requires
count_uses-added-requires c =
    let t = c.args.passed.now.words.now in
    let D = c.lay-laid.ensures in
    let e = c.in_limits.ensures in
    let y = c.if-not-in_limits.false in
    scratch t (structure_of t _ c.args.passed.now.passing) _ _ D.0 D.1 D.2 D.3 D.4 (few_nodes t D.0 D.1 D.2 D.3 e y) (few_wires t D.0 D.1 D.2 D.3 e y) refl refl

pub returns-then-not-in_limits-2-clause-answer : goal.returns-then-not-in_limits-2-clause-answer
returns-then-not-in_limits-2-clause-answer c =
    let t = c.args.passed.now.words.now in
    let D = c.lay-laid.ensures in
    let e = c.in_limits.ensures in
    let y = c.if-not-in_limits.false in
    let M = measured t (structure_of t _ c.args.passed.now.passing) _ _ D.0 D.1 D.2 D.3 D.4 (few_nodes t D.0 D.1 D.2 D.3 e y) (few_wires t D.0 D.1 D.2 D.3 e y) refl refl _ _ _ none_tallied c.count_uses-added.ensures.0 c.count_uses-added.ensures.1 c.in_limits-2.ensures in
    told_crowded t (sym c.if-not-in_limits-2.true ∙ M.room) (ap number_of c.crowded-then-not-in_limits-2.ensures.0) c.crowded-then-not-in_limits-2.ensures.1 c.args.passed.now.passing.rows

pub returns-clause-answer : goal.returns-clause-answer
returns-clause-answer c =
    let t = c.args.passed.now.words.now in
    let D = c.lay-laid.ensures in
    let e = c.in_limits.ensures in
    let y = c.if-not-in_limits.false in
    let M = measured t (structure_of t _ c.args.passed.now.passing) _ _ D.0 D.1 D.2 D.3 D.4 (few_nodes t D.0 D.1 D.2 D.3 e y) (few_wires t D.0 D.1 D.2 D.3 e y) refl refl _ _ _ none_tallied c.count_uses-added.ensures.0 c.count_uses-added.ensures.1 c.in_limits-2.ensures in
    told_fitting t (sym c.if-not-in_limits-2.false ∙ M.room)

pub returns-clause-ready : goal.returns-clause-ready
returns-clause-ready c =
    let t = c.args.passed.now.words.now in
    let D = c.lay-laid.ensures in
    let e = c.in_limits.ensures in
    let y = c.if-not-in_limits.false in
    let M = measured t (structure_of t _ c.args.passed.now.passing) _ _ D.0 D.1 D.2 D.3 D.4 (few_nodes t D.0 D.1 D.2 D.3 e y) (few_wires t D.0 D.1 D.2 D.3 e y) refl refl _ _ _ none_tallied c.count_uses-added.ensures.0 c.count_uses-added.ensures.1 c.in_limits-2.ensures in
    M.ready c.if-not-in_limits-2.false
