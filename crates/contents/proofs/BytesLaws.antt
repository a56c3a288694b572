-- A law of numbers of two bytes.
-- Assumes nothing.
use mathlib.Core.Path.{◌≡◌}
use mathlib.Core.List.{List}
use Prim.Native.Nat.{ℕ, ◌+◌, ◌*◌}
use native.Mathlib.Omega.{arith}
use lib.ListN.{get_or}
use Rattle.contents.specs.Bytes.{big_endian}

-- the high byte first
pub two_bytes : (file : List ℕ) (at : ℕ) → big_endian file at 2 ≡ get_or file at 0 * 256 + get_or file (at + 1) 0
unfolding big_endian
two_bytes file at = let first : at + 0 ≡ at = omega arith in rw first (omega arith)
