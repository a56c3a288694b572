-- Laws of division rounded down: how large a quotient is.
-- Assumes nothing.
use Prim.Native.Nat.{ℕ, ◌≤◌}
use native.Mathlib.Nat.{div-le_self}
use native.Mathlib.Omega.{arith}
use lib.IntN.{ℤ, pos, negsuc, nat_abs}
use Rattle.base.specs.Floor.{floor_div}

-- a quotient rounded down is no larger than the number
pub size-floor : (z : ℤ) (d : ℕ) → nat_abs (floor_div z d) ≤ nat_abs z
size-floor (pos a) d = div-le_self a d
size-floor (negsuc a) d = omega (arith, div-le_self a d)
