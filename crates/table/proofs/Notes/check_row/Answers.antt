-- `table::Notes::check_row` meets its contract. The tests in the order of their numbers; the first that fails is answered. Assumes nothing.
use mathlib.Core.Path.{sym, ◌∙◌}
use native.Mathlib.Omega.{arith}
use Rattle.std.proofs.lemmas.Result.{err_from_is_err_and}
use Rattle.table.specs.Clauses.{explained}
use Rattle.table.proofs.Different.{place_fault_counts, kind_few}
use Rattle.table.proofs.Noting.{loop_is}
use Rattle.table.proofs.Refusing.{by_kind, by_spare, by_code, by_place, by_depth, by_name, by_type, by_none}
use Rattle.table.proofs.Notes.check_row.Goals as goal

pub returns-in_default : goal.returns-in_default
unfolding explained
returns-in_default c = let e = by_kind c.args.table.now c.args.r (omega (arith, c.in_default.ensures)) in (sym e, rw e)

pub returns-in-Some : goal.returns-in-Some
unfolding explained
returns-in-Some c = let w = c.in-Some.ensures in
    let e = by_spare c.args.table.now c.args.r (omega (arith, kind_few c.in-Ok.kind, c.in-Ok.ensures)) w.0 w.1 in (sym e, rw (e, ← w.0))

pub returns-in-Some-code_word : goal.returns-in-Some-code_word
unfolding explained
returns-in-Some-code_word c = let w = c.in-Some-code_word.ensures in
    let e = by_code c.args.table.now c.args.r (omega (arith, kind_few c.in-Ok.kind, c.in-Ok.ensures)) c.in_default-spare_word.ensures w.0 w.1 in (sym e, rw (e, ← w.0))

pub returns-in-Some-place : goal.returns-in-Some-place
unfolding explained
returns-in-Some-place c = let N = c.requires.0 in let t = c.args.table.now in let r = c.args.r in
    let k = c.in-Ok.ensures ∙ c.kind_at.ensures in
    let f = c.in-Some-place.ensures t r k N.before N.loops in
    let e = by_place t r (omega (arith, kind_few c.in-Ok.kind, k)) c.in_default-spare_word.ensures c.in_default-code_word.ensures f (place_fault_counts c.in-Some-place.fault) in
    (sym e, rw (e, ← f) (loop_is t r _ c.innermost.result N c.innermost.ensures))

pub returns-then-not-depth_right : goal.returns-then-not-depth_right
unfolding explained
returns-then-not-depth_right c = let N = c.requires.0 in let t = c.args.table.now in let r = c.args.r in
    let k = c.in-Ok.ensures ∙ c.kind_at.ensures in
    let e = by_depth t r (omega (arith, kind_few c.in-Ok.kind, k)) c.in_default-spare_word.ensures c.in_default-code_word.ensures (sym (c.in_default-place.ensures t r k N.before N.loops))
    (sym (c.depth_right.ensures t r k N.loops) ∙ c.if-not-depth_right.true) in
    (sym e, rw e (loop_is t r 0 c.innermost-then-not-depth_right.result N c.innermost-then-not-depth_right.ensures))

pub returns-in_err-check_names : goal.returns-in_err-check_names
unfolding explained
returns-in_err-check_names c = let N = c.requires.0 in let t = c.args.table.now in let r = c.args.r in
    let k = c.in-Ok.ensures ∙ c.kind_at.ensures in
    let n = c.in_err-check_names.ensures in
    let e = by_name t r (omega (arith, kind_few c.in-Ok.kind, k)) c.in_default-spare_word.ensures c.in_default-code_word.ensures (sym (c.in_default-place.ensures t r k N.before N.loops))
    (sym (c.depth_right.ensures t r k N.loops) ∙ c.if-not-depth_right.false) n.1 in
    let p = err_from_is_err_and c.from_residual.result c.from_residual.ensures.1 in rw (p.1, p.2) (n.0 ∙ sym e, rw e n.2)

pub returns-in-Some-mistyped_word : goal.returns-in-Some-mistyped_word
unfolding explained
returns-in-Some-mistyped_word c = let N = c.requires.0 in let t = c.args.table.now in let r = c.args.r in
    let k = c.in-Ok.ensures ∙ c.kind_at.ensures in
    let w = c.in-Some-mistyped_word.ensures in
    let e = by_type t r (omega (arith, kind_few c.in-Ok.kind, k)) c.in_default-spare_word.ensures c.in_default-code_word.ensures (sym (c.in_default-place.ensures t r k N.before N.loops))
    (sym (c.depth_right.ensures t r k N.loops) ∙ c.if-not-depth_right.false) c.in_ok-check_names.ensures w.0 w.1 in
    (sym e, rw (e, ← w.0, ← k, ← c.number.ensures, ← c.wanted_sort.ensures))

pub returns : goal.returns
returns c = let N = c.requires.0 in let t = c.args.table.now in let r = c.args.r in
    let k = c.in-Ok.ensures ∙ c.kind_at.ensures in (
      k,
      by_none t r (omega (arith, kind_few c.in-Ok.kind, k)) c.in_default-spare_word.ensures c.in_default-code_word.ensures (sym (c.in_default-place.ensures t r k N.before N.loops))
          (sym (c.depth_right.ensures t r k N.loops) ∙ c.if-not-depth_right.false) c.in_ok-check_names.ensures c.in_default-mistyped_word.ensures,
    )
