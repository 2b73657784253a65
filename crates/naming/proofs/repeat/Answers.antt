-- `naming::repeat` meets its contract. After i rounds the name stands i times.
-- Assumes nothing.
use mathlib.Core.List.{[], ◌∷◌}
use mathlib.Core.Path.{refl}
use native.Mathlib.Omega.{arith}
use Rattle.naming.proofs.Writing.{nothing_written, same_long, one_written, all_written}
use Rattle.naming.proofs.repeat.Goals as goal

pub loop-i-init : goal.loop-i-init
loop-i-init c = (omega arith, nothing_written (λ j. c.args.a ∷ c.args.b ∷ c.args.c ∷ []) c.args.at c.args.words.now)

pub three-requires : goal.three-requires
three-requires c = let a = c.args in let l = c.loop-i in let s = same_long (λ j. a.a ∷ a.b ∷ a.c ∷ []) a.at l.invariant.1 in let h = c.requires.1 in omega arith

pub overflow_add-p : goal.overflow_add-p
overflow_add-p c = let a = c.args in let l = c.loop-i in let h = c.requires.1 in omega arith

pub loop-i-preserved : goal.loop-i-preserved
loop-i-preserved c = let a = c.args in let l = c.loop-i in (omega arith, one_written (λ j. a.a ∷ a.b ∷ a.c ∷ []) a.at l.invariant.1 (a.a ∷ a.b ∷ a.c ∷ []) refl refl c.three.ensures)

pub shape_of-words : goal.shape_of-words
shape_of-words c = let a = c.args in same_long (λ j. a.a ∷ a.b ∷ a.c ∷ []) a.at c.loop-i.invariant.1

pub returns : goal.returns
returns c = let a = c.args in (all_written (λ j. a.a ∷ a.b ∷ a.c ∷ []) a.at c.loop-i.invariant.1 a.count (omega arith)).1
