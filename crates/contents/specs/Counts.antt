-- The code's own form: a count that may be none. No definition of the format rests on it.
use Rattle.std.specs.Prelude.{ℕ, zero, suc, Option, Some, None}

-- A count that is not 0; none where it is.
unfoldable pub nonzero : ℕ → Option ℕ
nonzero zero = None
nonzero (suc n) = Some (suc n)
