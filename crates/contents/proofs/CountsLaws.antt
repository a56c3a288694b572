-- Laws of counts that may be none.
-- Assumes nothing.
use mathlib.Core.Path.{◌≡◌, refl}
use Prim.Native.Nat.{ℕ, zero, suc, ◌≤◌}
use native.Mathlib.Omega.{arith}
use Rattle.std.specs.Prelude.{Some}
use Rattle.contents.specs.Counts.{nonzero}

-- a count that is not 0
pub nonzero-some : (n : ℕ) → 1 ≤ n → Some n ≡ nonzero n
unfolding nonzero
nonzero-some zero some = absurd (omega arith)
nonzero-some (suc n) some = refl
