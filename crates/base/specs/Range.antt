-- Document 01, "Refusal numbers": signed 32 bits, the range of the numbers in a plane.
use Rattle.std.specs.Prelude.{◌^◌, Bool, ltb, ℤ}
use Rattle.std.specs.Int.Signed.{mag}

-- "outside signed 32 bits" is where this is false: −2^31 up to 2^31 − 1. `mag` is n both for n and for −(n + 1).
unfoldable pub fits32 : ℤ → Bool
fits32 z = ltb (mag z) (2 ^ 31)
