-- `lookups::starts_with_ones` meets its contract: both sides of the test have room in 64 bits.
use mathlib.Core.Path.{◌≡◌}
use Prim.Native.Nat.{ℕ, ◌+◌, ◌-◌, ◌/◌, ◌^◌, ◌≤◌, ◌<◌}
use native.Mathlib.Nat.{div-le_self}
use native.Mathlib.Omega.{arith}
use lib.Pow.{shr-shr}
use Rattle.lookups.proofs.starts_with_ones.Goals as goal

-- a shift by one or more leaves at most half
halved : (w n : ℕ) → n < 64 → w / 2 ^ (64 - n) ≤ w / 2
halved w n fewer =
    let whole : 1 + (63 - n) ≡ 64 - n = omega arith in
    rw (← whole, ← shr-shr w 1 (63 - n)) (div-le_self (w / 2) (2 ^ (63 - n)))

pub overflow_add-result : goal.overflow_add-result
overflow_add-result c = omega (arith, halved c.args.w c.args.n (omega arith))
