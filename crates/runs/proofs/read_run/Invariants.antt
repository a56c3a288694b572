-- `runs::read_run` meets its contract: at the loop's head the values before value i are read; a value that is refused, or data that are used up,
-- end it.
use mathlib.Core.Path.{◌≡◌}
use Prim.Native.Nat.{◌-◌, ◌≤◌}
use Rattle.coefficients.specs.Reading.{goes_on}
use Rattle.coefficients.specs.Scaling.{scale_of}
use Rattle.runs.proofs.RunsLaws.{up_to}
use Rattle.runs.proofs.read_run.Given as goal

abbrev pub invariant-loop-i : goal.invariant-loop-i
invariant-loop-i l = (l.i ≤ l.n) × (l.bit ≤ l.fn.span.end) × (up_to l.bytes l.fn.span.end l.fn.span.origin (scale_of l.decoder.q) l.fn.span.bit l.initial.run l.i ≡ goes_on l.bit l.run)

abbrev pub decreases-loop-i : goal.decreases-loop-i
decreases-loop-i l = l.n - l.i
