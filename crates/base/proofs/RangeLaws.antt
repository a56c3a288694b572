-- Laws of ranges: a signed number read back from its bits, and the test of a range.
-- Assumes nothing.
use mathlib.Core.Path.{◌≡◌, sym, ◌∙◌}
use mathlib.Core.Bool.{true, false}
use Prim.Native.Nat.{◌^◌, ◌<◌}
use native.Mathlib.Decide.{dec_lt}
use native.Mathlib.Omega.{arith}
use lib.Dec.{leb-suc-suc}
use lib.IntN.{ℤ, pos, negsuc}
use lib.Signed.{mag, le_z}
use mir.Syntax.{Width, w32, w64}
use Rattle.std.proofs.Common.{FitsSigned}
use mir.Val.{to_z, of_z, hbits}
use mir.ValLaws.{to_z-of_z}
use borrow.Author.Tests.{lt-ltb, le-ltb, ltb-true}
use Rattle.base.specs.Range.{fits32}

-- a number that fits is what its bits say
pub back : (w : Width) (z : ℤ) → mag z < 2 ^ hbits w → to_z w (of_z w z) ≡ z
back w z h = to_z-of_z w z (record { sfits = h })

-- the test of the range, and its bound
pub fits32-below : (z : ℤ) → fits32 z ≡ true → mag z < 2 ^ 31
unfolding fits32
fits32-below z e = ltb-true (mag z) (2 ^ 31) e

pub below-fits32 : (z : ℤ) → mag z < 2 ^ 31 → fits32 z ≡ true
unfolding fits32
below-fits32 z h = lt-ltb (mag z) (2 ^ 31) h

pub fits32-outside : (z : ℤ) → (FitsSigned w32 z → ⊥) → fits32 z ≡ false
unfolding fits32
fits32-outside z wide =
    elim (dec_lt (mag z) (2 ^ 31)) [
      | yes below ↦ absurd (wide (record { sfits = below }))
      | no not_below ↦ le-ltb (mag z) (2 ^ 31) (omega arith)
    ]

-- the range tested from below, then from above
pub fits32-upper : (z : ℤ) → le_z (negsuc 2147483647) z ≡ true → le_z z (pos 2147483647) ≡ fits32 z
unfolding fits32
fits32-upper (pos n) e = sym (leb-suc-suc n 2147483647)
fits32-upper (negsuc n) e = sym (leb-suc-suc n 2147483647 ∙ e)

pub fits32-lower : (z : ℤ) → le_z (negsuc 2147483647) z ≡ false → false ≡ fits32 z
unfolding fits32
fits32-lower (pos n) e = cc
fits32-lower (negsuc n) e = sym (leb-suc-suc n 2147483647 ∙ e)

-- the same tests of a number read back from its bits
pub fits32_above : (z : ℤ) → FitsSigned w64 z → le_z (negsuc 2147483647) (to_z w64 (of_z w64 z)) ≡ true → le_z (to_z w64 (of_z w64 z)) (pos 2147483647) ≡ fits32 z
fits32_above z h e = let b = back w64 z h.sfits in rw b (fits32-upper z (rw b at e))

pub fits32_under : (z : ℤ) → FitsSigned w64 z → le_z (negsuc 2147483647) (to_z w64 (of_z w64 z)) ≡ false → le_z (negsuc 2147483647) (to_z w64 (of_z w64 z)) ≡ fits32 z
fits32_under z h e = let b = back w64 z h.sfits in let low = rw b at e in rw b (low ∙ fits32-lower z low)
