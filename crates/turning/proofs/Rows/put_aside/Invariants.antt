use Rattle.turning.specs.Words.{Aside}
use Rattle.turning.proofs.Rows.put_aside.Given as goal

abbrev pub invariant-loop-j : goal.invariant-loop-j
invariant-loop-j l = Aside l.self.table.now l.from l.j l.words l.aside
