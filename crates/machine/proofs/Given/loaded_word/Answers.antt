-- `machine::loaded_word` meets its contract. Assumes nothing.
use Rattle.graph.specs.Accepted.{accepted}
use Rattle.machine.proofs.Loading.{place_full, place_word, place_rest}
use native.Mathlib.Omega.{arith}
use Rattle.machine.proofs.Given.loaded_word.Goals as goal

pub returns-then-j-eq0 : goal.returns-then-j-eq0
returns-then-j-eq0 c = record { answer = place_full _ _ _ (let e = c.wide-starts.ensures.0 in omega arith) c.if-j-eq0.true }

pub returns-then-j-starts : goal.returns-then-j-starts
returns-then-j-starts c = record { answer = place_word _ _ _ (let e = c.wide-starts.ensures.0 in omega arith) c.if-j-eq0.false c.start_word.ensures.answer }

pub returns : goal.returns
returns c = record { answer = place_rest _ _ _ (let e = c.wide-starts.ensures.0 in omega arith) }

pub bounds-self-2 : goal.bounds-self-2
bounds-self-2 c = let a = (accepted _ c.args.self.now.accepted).shape in omega arith
