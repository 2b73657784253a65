use Rattle.engine.proofs.Reading.{ended_answer, zero_answer, spent_answer}
use Rattle.engine.proofs.read_rows.Goals as goal

pub returns-in-Ok : goal.returns-in-Ok
returns-in-Ok c = let P = c.args.rows.now.passes in ended_answer _ _ P.right _ c.first_words-words.result c.first_words-words.ensures _ _ _ P.rows (rw c.loops-loops.ensures at c.in-Ok.ensures) c.put_results.ensures

pub returns-in-ZeroStep : goal.returns-in-ZeroStep
returns-in-ZeroStep c = let v = rw (c.in-ZeroStep.is, c.loops-loops.ensures) at c.in-Err.ensures in let P = c.args.rows.now.passes in zero_answer _ _ P.right _ c.first_words-words.result c.first_words-words.ensures _ v

pub returns-in-Spent : goal.returns-in-Spent
returns-in-Spent c = let v = rw (c.in-Spent.is, c.loops-loops.ensures) at c.in-Err.ensures in let P = c.args.rows.now.passes in spent_answer _ _ P.right _ c.first_words-words.result c.first_words-words.ensures _ v
