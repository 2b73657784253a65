-- `table::Notes::new` meets its contract. No row is passed, and no loop is open. Assumes nothing.
use native.Mathlib.Omega.{arith}
use mathlib.Core.Path.{refl}
use lib.ListN.{length-replicate}
use Rattle.table.specs.Scan.{stack_at}
use Rattle.table.specs.Kept.{nowhere}
use Rattle.table.proofs.Opened.{open_none}
use Rattle.table.proofs.Notes.new.Goals as goal

pub returns : goal.returns
unfolding stack_at
returns c = λ t w s.
    record {
      whole = w;
      rows = s;
      below = omega arith;
      long = length-replicate 512 nowhere;
      loops = open_none _ _ c.none.ensures;
      before = refl;
      home_of = λ k l. absurd (omega arith);
      body_of_lem = λ k l. absurd (omega arith);
    }
