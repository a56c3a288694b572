-- The code's own forms: a quantiser as a function of sizes, and the small values that it makes. No definition of the format rests on them.
use Rattle.std.specs.Prelude.{ℕ, ◌/◌, ◌%◌, ◌<◌, ◌^◌, ◌≡◌, Bool, true, List, eqb, ltb, ℤ, pos, get_or}
use Rattle.base.specs.Range.{fits32}
use Rattle.base.specs.Sign.{with_sign}
use Rattle.coefficients.specs.Quantiser.{scaled}
use Rattle.coefficients.specs.declared.reading.Quantiser.{Quantiser}

-- What a quantiser makes of a size.
abbrev pub scale_of : Quantiser → ℕ → ℕ
scale_of q = scaled q.factor q.offset

-- Every size below 15 becomes one that fits a plane.
unfoldable pub small_fit : Quantiser → Bool
small_fit q = ltb (scale_of q 14) (2 ^ 31)

-- A small value, by twice its size and one more where it is below 0.
unfoldable pub small_value : (ℕ → ℕ) → ℕ → ℤ
small_value scale k = with_sign (scale (k / 2)) (eqb (k % 2) 1)

-- The small values are at hand, and fit. A size of 0 stays 0.
pub record Small (scale : ℕ → ℕ) (small : List ℤ) : Type 0 where
  pub none : scale 0 ≡ 0
  pub fits : (k : ℕ) → k < 30 → fits32 (small_value scale k) ≡ true
  pub each : (k : ℕ) → k < 30 → get_or small k (pos 0) ≡ small_value scale k
