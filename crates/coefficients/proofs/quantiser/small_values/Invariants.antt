-- `coefficients::quantiser::small_values` meets its contract: after k turns the first k values are stored, and all of them fit.
use mathlib.Core.Path.{◌≡◌}
use Prim.Native.Nat.{ℕ, ◌≤◌, ◌<◌}
use lib.IntN.{pos}
use lib.ListN.{length, get_or}
use Rattle.coefficients.specs.Scaling.{scale_of, small_value}
use Rattle.coefficients.proofs.quantiser.small_values.Given as goal

abbrev pub invariant-loop-k : goal.invariant-loop-k
invariant-loop-k l = (l.k ≤ 30) × (length l.small ≡ 32) × ((j : ℕ) → j < l.k → get_or l.small j (pos 0) ≡ small_value (scale_of l.q) j)
