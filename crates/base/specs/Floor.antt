-- Document 01, "Lifting": "rounding down", division of a whole number by a natural number, toward minus infinity.
use Rattle.std.specs.Prelude.{ℕ, ℤ}
use Rattle.std.specs.Int.Signed.{shr_z}

-- floor(z / d), for d above 0
abbrev pub floor_div : ℤ → ℕ → ℤ
floor_div z d = shr_z z d
