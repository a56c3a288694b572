-- `low_delay::starts::slice_count` meets its contract: each count is from 1 to 255.
use mathlib.Core.Path.{refl}
use Prim.Native.Nat.{◌*◌, ◌≤◌}
use native.Mathlib.Nat.{mul-le-mul}
use Rattle.slices.specs.Areas.{slice_count}
use Rattle.low_delay.proofs.starts.slice_count.Goals as goal
use Rattle.low_delay.proofs.starts.slice_count.Goals.{Start}

-- the product is small
small : (c : Start) → c.args.p.slices_across * c.args.p.slices_down ≤ 65025
small c = mul-le-mul c.requires.across_most c.requires.down_most

pub returns : goal.returns
unfolding slice_count
returns c =
    (refl, mul-le-mul {n₁ = 1} {m₁ = 1} c.requires.across_least c.requires.down_least, small (goal.at.returns c).Start)
