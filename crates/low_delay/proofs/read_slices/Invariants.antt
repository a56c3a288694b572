-- `low_delay::read_slices` meets its contract: at the loop's head what is left is what follows from the planes so far.
use mathlib.Core.Path.{◌≡◌}
use Prim.Native.Nat.{◌-◌, ◌≤◌}
use lib.ListN.{length}
use Rattle.slices.specs.Stores.{planes_behind, SamePlanes}
use Rattle.slices.specs.Reads.{Blank}
use Rattle.low_delay.specs.Job.{slices_from}
use Rattle.low_delay.proofs.read_slices.Given as goal

abbrev pub invariant-loop-k : goal.invariant-loop-k
invariant-loop-k l =
    (l.k ≤ l.count) × SamePlanes l.initial.planes l.planes × (length l.run ≡ 8192) × Blank l.run
    × (slices_from l.p l.bytes l.count 0 (planes_behind l.initial.planes) ≡ slices_from l.p l.bytes (l.count - l.k) l.k (planes_behind l.planes))
