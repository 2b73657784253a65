-- `machine::Given::start_word` meets its contract. Assumes nothing.
use Rattle.graph.specs.Accepted.{accepted}
use native.Mathlib.Omega.{arith}
use Rattle.machine.proofs.Loading.{input_there, start_input, start_constant}
use Rattle.machine.proofs.Given.start_word.Goals as goal

pub bounds-self-wide : goal.bounds-self-wide
bounds-self-wide c = let l = input_there _ _ _ (record { accepted = (accepted _ c.args.self.now.accepted); inputs = c.args.self.now.counted }) c.requires c.in-0.is in let e = c.wide.ensures.0 in omega arith

pub returns-in-0 : goal.returns-in-0
returns-in-0 c = record { answer = start_input _ _ _ c.in-0.is c.wide.ensures.0 }

pub returns-in_default : goal.returns-in_default
returns-in_default c = record { answer = start_constant _ _ _ c.in_default.in_default-own.rest.1 }

pub overflow_mul-kind : goal.overflow_mul-kind
overflow_mul-kind c = let a = (accepted _ c.args.self.now.accepted).shape in omega arith

pub overflow_add-kind : goal.overflow_add-kind
overflow_add-kind c = let a = (accepted _ c.args.self.now.accepted).shape in let h = c.requires in omega arith

pub offset_bounds-self-k : goal.offset_bounds-self-k
offset_bounds-self-k c = let a = (accepted _ c.args.self.now.accepted).shape in let h = c.requires in omega arith

pub bounds-self-k : goal.bounds-self-k
bounds-self-k c = let a = (accepted _ c.args.self.now.accepted).shape in let h = c.requires in omega arith

pub overflow_mul-word : goal.overflow_mul-word
overflow_mul-word c = let a = (accepted _ c.args.self.now.accepted).shape in let h = c.requires in omega arith

pub overflow_add-word : goal.overflow_add-word
overflow_add-word c = let a = (accepted _ c.args.self.now.accepted).shape in let h = c.requires in omega arith

pub offset_bounds-self-k-2 : goal.offset_bounds-self-k-2
offset_bounds-self-k-2 c = let a = (accepted _ c.args.self.now.accepted).shape in let h = c.requires in omega arith

pub bounds-self-k-2 : goal.bounds-self-k-2
bounds-self-k-2 c = let a = (accepted _ c.args.self.now.accepted).shape in let h = c.requires in omega arith
