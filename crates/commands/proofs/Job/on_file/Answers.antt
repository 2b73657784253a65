-- `commands::Job::on_file` is safe and ends. The length of the memory comes by the law: it is too long to compute. Assumes nothing.
use Prim.Native.Nat.{ℕ}
use mathlib.Core.Path.{sym}
use lib.ListN.{length-replicate}
use Rattle.commands.proofs.Job.on_file.Goals as goal

pub slice_bounds-read_file-end : goal.slice_bounds-read_file-end
slice_bounds-read_file-end g c = sym (length-replicate {A = ℕ} 1048576 0)
