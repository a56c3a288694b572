-- Laws of dequantising: the offset of an index as the code computes it, and bounds of factor and offset.
-- Assumes nothing.
use mathlib.Core.Path.{◌≡◌, refl}
use mathlib.Core.Logic.{◌≢◌}
use mathlib.Core.Bool.{Bool, true, false, cond}
use Prim.Native.Nat.{ℕ, zero, suc, ◌+◌, ◌*◌, ◌/◌, ◌%◌, ◌^◌, ◌≤◌, ◌<◌}
use native.Mathlib.Omega.{arith}
use lib.Pow.{pow_pos, pow_mono}
use Rattle.coefficients.specs.Quantiser.{factor_of, quant_factor, intra_offset, difference_offset, quant_offset}

-- the power of two in a factor
power-most : (q : ℕ) → q ≤ 115 → 2 ^ (q / 4) ≤ 2 ^ 28
power-most q h = pow_mono {i = q / 4} {j = 28} (omega arith)

-- a factor is at most 7 times its power
factor_of-most : (r b : ℕ) → 1 ≤ b → factor_of r b ≤ 7 * b
unfolding factor_of
factor_of-most zero b h = omega arith
factor_of-most (suc zero) b h = omega arith
factor_of-most (suc (suc zero)) b h = omega arith
factor_of-most (suc (suc (suc r))) b h = omega arith

-- a factor has 31 bits
pub factor-below : (q : ℕ) → q ≤ 115 → quant_factor q < 2 ^ 31
unfolding quant_factor
factor-below q h = omega (arith, factor_of-most (q % 4) (2 ^ (q / 4)) (pow_pos (q / 4)), power-most q h)

-- the offset at index 0; at index 1, where the exception that an intra picture has is what the other rule gives; and above, where both are
-- eighths of the factor, rounded
pub offset-at-0 : (intra : Bool) → quant_offset intra 0 ≡ 1
unfolding quant_offset intra_offset difference_offset
offset-at-0 true = refl
offset-at-0 false = refl

pub offset-at-1 : (intra : Bool) → quant_offset intra 1 ≡ 2
unfolding quant_offset intra_offset difference_offset quant_factor factor_of
offset-at-1 true = refl
offset-at-1 false = refl

pub offset-from-2 : (intra : Bool) (q : ℕ) → q ≢ 0 → q ≢ 1 → quant_offset intra q ≡ (cond intra 4 3 * quant_factor q + 4) / 8
unfolding quant_offset intra_offset difference_offset
offset-from-2 intra zero n0 n1 = absurd (n0 refl)
offset-from-2 intra (suc zero) n0 n1 = absurd (n1 refl)
offset-from-2 true (suc (suc q)) n0 n1 = omega arith
offset-from-2 false (suc (suc q)) n0 n1 = refl

-- bounds of those eighths and of the offset
pub eighths-below : (intra : Bool) (q : ℕ) → q ≤ 115 → cond intra 4 3 * quant_factor q < 2 ^ 34
eighths-below true q h = omega (arith, factor-below q h)
eighths-below false q h = omega (arith, factor-below q h)

pub offset-below : (intra : Bool) (q : ℕ) → q ≤ 115 → quant_offset intra q < 2 ^ 31
unfolding quant_offset intra_offset difference_offset
offset-below true zero h = omega arith
offset-below true (suc zero) h = omega arith
offset-below true (suc (suc q)) h = omega (arith, factor-below (suc (suc q)) h)
offset-below false zero h = omega arith
offset-below false (suc q) h = omega (arith, factor-below (suc q) h)
