-- `low_delay::starts::slice_start` meets its contract: it computes the definition, and k times the numerator is small.
use Prim.Native.Nat.{◌*◌, ◌≤◌}
use native.Mathlib.Nat.{mul-le-mul}
use native.Mathlib.Omega.{arith}
use mathlib.Core.Path.{refl}
use Rattle.low_delay.specs.Slices.{slice_start}
use Rattle.low_delay.proofs.SlicesLaws.{start-most}
use Rattle.low_delay.proofs.starts.slice_start.Goals as goal
use Rattle.low_delay.proofs.starts.slice_start.Goals.{Start}

-- the product is small
small : (c : Start) → c.args.k * c.args.p.numerator ≤ 65025 * 65535
small c = mul-le-mul c.requires.1 c.requires.0.numerator_most

pub returns : goal.returns
unfolding slice_start
returns c =
    (refl, omega (arith, start-most c.args.p c.args.k, small (goal.at.returns c).Start))
