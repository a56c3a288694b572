-- `coefficients::values::read_run` meets its contract: at the loop's head the values before value i are read; a value that is refused, or not all
-- there, ends it.
use mathlib.Core.Path.{◌≡◌}
use Prim.Native.Nat.{◌-◌, ◌≤◌}
use lib.ListN.{length}
use Rattle.coefficients.specs.Scaling.{scale_of}
use Rattle.coefficients.specs.Values.{index_of}
use Rattle.coefficients.proofs.PortionsLaws.{Follows, Sofar}
use Rattle.coefficients.proofs.values.read_run.Given as goal

abbrev pub invariant-loop-i : goal.invariant-loop-i
invariant-loop-i l =
    (l.from ≤ l.i) × (l.i ≤ l.layout.count) × (length l.plane ≡ length l.initial.plane) × Follows l.initial.next l.next × (l.next.bit ≤ l.initial.next.end)
    × Sofar l.bytes l.initial.next (scale_of l.decoder.q) (index_of l.layout) l.from l.initial.plane (l.i - l.from) l.next.bit l.plane

abbrev pub decreases-loop-i : goal.decreases-loop-i
decreases-loop-i l = l.layout.count - l.i
