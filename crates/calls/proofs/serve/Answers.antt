-- `calls::serve` is safe and ends. The lengths of the two largest arrays come by the law: they are too long to compute, and so is what stands on
-- the pages, which no tactic may read.
-- Assumes nothing.
use Prim.Native.Nat.{ℕ, ◌≤◌}
use mathlib.Core.Path.{◌≡◌, sym}
use lib.ListN.{length, length-replicate}
use native.Mathlib.Omega.{arith}
use Rattle.std.specs.Prelude.{List, Result, Ok, Err}
use Rattle.std.specs.Io.{ReadsAtMost}
use Rattle.std.specs.Result.{result_unwrap_or}
use Rattle.std.proofs.lemmas.List.{length-take-le}
use Rattle.calls.proofs.serve.Goals as goal

-- a read that fails counts as none
count_within : {E : Type 0} (r : Result ℕ E) (n : ℕ) (chunk : List ℕ) → ReadsAtMost r chunk → n ≡ result_unwrap_or r 0 → n ≤ length chunk
count_within (Ok k) n chunk h e = omega (arith, h, e)
count_within (Err x) n chunk h e = omega (arith, e)

pub slice_bounds-new-end : goal.slice_bounds-new-end
slice_bounds-new-end g c = sym (length-replicate {A = ℕ} 1048576 0)

pub slice_bounds-new-end-2 : goal.slice_bounds-new-end-2
slice_bounds-new-end-2 g c = sym (length-replicate {A = ℕ} 1048576 0)

pub slice_bounds-chunk-end : goal.slice_bounds-chunk-end
slice_bounds-chunk-end g c = count_within c.receive.result c.unwrap_or-count.result c.receive.new.chunk c.receive.ensures c.unwrap_or-count.ensures

pub slice_bounds-read-end : goal.slice_bounds-read-end
slice_bounds-read-end g c = sym (length-take-le c.unwrap_or-count.result c.receive.new.chunk (count_within c.receive.result c.unwrap_or-count.result c.receive.new.chunk c.receive.ensures c.unwrap_or-count.ensures))
