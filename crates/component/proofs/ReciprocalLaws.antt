-- Laws of reciprocals: how large one is.
-- Assumes nothing.
use Prim.Native.Nat.{ℕ, ◌≤◌}
use native.Mathlib.Nat.{div-le_self}
use native.Mathlib.Omega.{arith}
use Rattle.component.specs.Reciprocal.{reciprocal_of}

-- the reciprocal of a count has 33 bits at most
pub reciprocal-small : (count : ℕ) → reciprocal_of count ≤ 4294967297
unfolding reciprocal_of
reciprocal-small count = omega (arith, div-le_self 4294967296 count)
