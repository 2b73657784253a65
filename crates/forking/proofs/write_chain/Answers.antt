-- `forking::write_chain` meets its contract. What is left to write, written at the present place, always makes the whole chain.
-- Assumes nothing.
use Rattle.std.proofs.Common.{◌+◌, ◌-◌, ◌*◌, ◌≡◌, refl, sym, ap, ◌∙◌, arith}
use Rattle.std.proofs.lemmas.List.Edits.{sets}
use Rattle.forking.specs.Forked.{fork_words_one}
use Rattle.forking.proofs.Words.{chain_more}
use Rattle.forking.proofs.write_chain.Goals as goal

pub loop-k-init : goal.loop-k-init
loop-k-init c =
    let a : c.args.free + 0 ≡ c.args.free = omega arith in
    let b : c.args.uses - 0 ≡ c.args.uses = omega arith in
    (refl, omega arith, rw (b, a))

pub four-requires : goal.four-requires
four-requires c = let e = c.three.auto.graph in omega arith

pub loop-k-preserved : goal.loop-k-preserved
loop-k-preserved c =
    let l = c.loop-k in
    let a = c.args in
    let e = c.three.auto.graph in
    let d = c.four.auto.graph in
    let k : a.uses - (l.k + 1) ≡ a.uses - l.k - 1 = omega arith in
    let f : a.free + 2 * (l.k + 1) ≡ a.free + 2 * l.k + 2 = omega arith in (
      d ∙ e ∙ l.invariant.0,
      omega arith,
      rw (k, f) (chain_more a.sort l.x (a.uses - l.k) (a.free + 2 * l.k) l.graph l.p (omega arith) (rw c.number.ensures at c.three.ensures) c.four.ensures ∙ l.invariant.2),
    )

pub shape_of-graph : goal.shape_of-graph
shape_of-graph c = c.loop-k.invariant.0

pub returns : goal.returns
returns c =
    let l = c.loop-k in
    let a = c.args in
    let last : a.uses - l.k ≡ 1 = omega arith in
    ap (sets l.graph l.p) (sym (fork_words_one a.sort l.x _ last)) ∙ l.invariant.2
