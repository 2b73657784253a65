-- `table::Notes::sight` meets its contract. The tests of `visible` in their order; what was noted of the earlier row stands for its home and its body. Assumes nothing.
use mathlib.Core.Bool.{true, false}
use mathlib.Core.Path.{sym, ◌∙◌}
use native.Mathlib.Omega.{arith}
use Rattle.table.specs.Clauses.{hidden_body}
use Rattle.table.proofs.Visible.{read_is, not_earlier, no_value, seen_there, end_to_come, not_there}
use Rattle.table.proofs.Noting.{size_is}
use Rattle.table.proofs.Notes.sight.Goals as goal

pub returns-then-v-r : goal.returns-then-v-r
unfolding hidden_body
returns-then-v-r c = let e = not_earlier c.args.table.now c.args.r c.args.v c.if-v-r.true in (sym e, rw e)

pub returns-then-named-number : goal.returns-then-named-number
unfolding hidden_body
returns-then-named-number c = let e = no_value c.args.table.now c.args.r c.args.v (omega arith) c.kind_at-named.ensures (omega arith) in (sym e, rw e)

pub returns-then-named-number-2 : goal.returns-then-named-number-2
unfolding hidden_body
returns-then-named-number-2 c = let a = c.args in let N = c.requires.0 in
    let e = seen_there a.table.now a.r a.v (omega arith) c.kind_at-named.ensures (omega arith) (size_is _ _ N.whole) (N.home_of a.v (omega arith))
    (read_is _ _ c.requires.2 N.loops c.read_loops.ensures) (sym c.body_open.ensures ∙ c.if-body_open.true) (λ q. c.if-named-number-2.true (q ∙ sym c.number-then-body_open.ensures)) in
    (sym e, rw e)

pub returns-then-holds : goal.returns-then-holds
unfolding hidden_body
returns-then-holds c = let a = c.args in let N = c.requires.0 in
    let e = end_to_come a.table.now a.r a.v (omega arith) c.kind_at-named.ensures (omega arith) (size_is _ _ N.whole) (N.home_of a.v (omega arith))
    (read_is _ _ c.requires.2 N.loops c.read_loops.ensures) true (sym c.body_open.ensures ∙ c.if-body_open.true) (c.if-named-number-2.false ∙ c.number-then-body_open.ensures)
    (rw (← N.body_of_lem a.v (omega arith), ← N.loops) (sym c.if-holds.true ∙ c.holds.ensures)) in
    (sym e, rw (e, N.body_of_lem a.v (omega arith)))

pub returns-then-body_open : goal.returns-then-body_open
unfolding hidden_body
returns-then-body_open c = let a = c.args in let N = c.requires.0 in
    let e = end_to_come a.table.now a.r a.v (omega arith) c.kind_at-named.ensures (omega arith) (size_is _ _ N.whole) (N.home_of a.v (omega arith))
    (read_is _ _ c.requires.2 N.loops c.read_loops.ensures) false (sym c.body_open.ensures ∙ c.if-body_open.true) (c.if-named-number-2.false ∙ c.number-then-body_open.ensures)
    (rw (← N.body_of_lem a.v (omega arith), ← N.loops) (sym c.if-holds.false ∙ c.holds.ensures)) in
    (sym e, rw e)

pub returns-then-body_open-2 : goal.returns-then-body_open-2
unfolding hidden_body
returns-then-body_open-2 c = let a = c.args in let N = c.requires.0 in
    let e = not_there a.table.now a.r a.v (omega arith) c.kind_at-named.ensures (omega arith) (size_is _ _ N.whole) (N.home_of a.v (omega arith))
    (read_is _ _ c.requires.2 N.loops c.read_loops.ensures) true (sym c.body_open.ensures ∙ c.if-body_open.false) (rw (← N.loops) (sym c.if-body_open-2.true ∙ c.body_open-2.ensures)) in
    (sym e, rw (e, N.home_of a.v (omega arith)))

pub returns : goal.returns
unfolding hidden_body
returns c = let a = c.args in let N = c.requires.0 in
    let e = not_there a.table.now a.r a.v (omega arith) c.kind_at-named.ensures (omega arith) (size_is _ _ N.whole) (N.home_of a.v (omega arith))
    (read_is _ _ c.requires.2 N.loops c.read_loops.ensures) false (sym c.body_open.ensures ∙ c.if-body_open.false) (rw (← N.loops) (sym c.if-body_open-2.false ∙ c.body_open-2.ensures)) in
    (sym e, rw (e, N.home_of a.v (omega arith)))
