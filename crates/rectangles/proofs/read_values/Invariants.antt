-- `rectangles::read_values` meets its contract: at the loop's head the values up to i have been read, and each run is a step.
use mathlib.Core.Path.{◌≡◌}
use Prim.Native.Nat.{◌-◌}
use Rattle.std.specs.Prelude.{Ok}
use Rattle.coefficients.specs.Scaling.{scale_of}
use Rattle.rectangles.proofs.PortionsLaws.{moved, SoFar}
use Rattle.rectangles.proofs.read_values.Given as goal

abbrev pub invariant-loop-i : goal.invariant-loop-i
invariant-loop-i l = (l.next ≡ moved l.initial.next l.next.bit) × SoFar l.bytes l.initial.next (scale_of l.decoder.q) l.area l.from l.initial.plane (Ok l.next.bit) l.i l.plane

abbrev pub decreases-loop-i : goal.decreases-loop-i
decreases-loop-i l = l.total - l.i
