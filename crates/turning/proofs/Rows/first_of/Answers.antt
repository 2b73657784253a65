use Rattle.turning.proofs.Naming.{row_in, same_kind, other_kind}
use Rattle.turning.proofs.Turns.{first_above, first_inside_table, one_arg_more, first_found}
use Rattle.table.specs.declared.Kind.TheVariants.{Arg}
use native.Mathlib.Omega.{arith}
use mathlib.Core.Path.{sym, ◌∙◌}
use Rattle.turning.proofs.Rows.first_of.Goals as goal

pub loop-r-init : goal.loop-r-init
loop-r-init c = let P = c.args.self.now.passes in (omega arith, first_above _ P.right _ (row_in P c.requires.0) c.requires.1)

pub kind-requires : goal.kind-requires
kind-requires c = let P = c.args.self.now.passes in let f = first_inside_table _ P.right _ (row_in P c.requires.0) c.requires.1 _ c.loop-r.invariant.1 in omega (arith, f.0, P.rows)

pub loop-r-smaller : goal.loop-r-smaller
loop-r-smaller c = let P = c.args.self.now.passes in omega (arith, one_arg_more _ P.right _ (row_in P c.requires.0) c.requires.1 _ _ c.loop-r.invariant.1 c.kind.ensures (same_kind _ Arg (sym c.eq.ensures ∙ c.loop-r-test.true)))

pub loop-r-preserved : goal.loop-r-preserved
loop-r-preserved c = let P = c.args.self.now.passes in (omega (arith, c.loop-r.invariant.0), one_arg_more _ P.right _ (row_in P c.requires.0) c.requires.1 _ _ c.loop-r.invariant.1 c.kind.ensures (same_kind _ Arg (sym c.eq.ensures ∙ c.loop-r-test.true)))

pub returns : goal.returns
returns c = let P = c.args.self.now.passes in first_found _ P.right _ (row_in P c.requires.0) c.requires.1 _ _ c.loop-r.invariant.0 c.loop-r.invariant.1 c.kind.ensures (other_kind _ Arg (sym c.eq.ensures ∙ c.loop-r-test.false))
