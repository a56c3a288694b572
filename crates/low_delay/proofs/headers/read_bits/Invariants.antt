-- `low_delay::headers::read_bits` meets its contract: at the loop's head v is the number of the first i bits.
use mathlib.Core.Path.{◌≡◌}
use Prim.Native.Nat.{◌≤◌}
use Rattle.exp_golomb.specs.Bits.{bits_from}
use Rattle.low_delay.proofs.headers.read_bits.Given as goal

abbrev pub invariant-loop-i : goal.invariant-loop-i
invariant-loop-i l = (l.i ≤ l.n) × (l.v ≡ bits_from l.bytes l.at l.i)
