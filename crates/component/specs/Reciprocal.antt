-- The code's own form: what multiplies in place of a division. No definition of the format rests on it.
use Rattle.std.specs.Prelude.{ℕ, ◌+◌, ◌/◌}

-- 2^32 over a count, rounded down, and one more.
unfoldable pub reciprocal_of : ℕ → ℕ
reciprocal_of count = 4294967296 / count + 1
