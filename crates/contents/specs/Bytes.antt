-- Document 01, "A recording": numbers of a file.
use Rattle.std.specs.Prelude.{ℕ, zero, suc, ◌+◌, ◌*◌, List, get_or}

-- "big-endian": the number of n bytes, from an offset on.
unfoldable pub big_endian : List ℕ → ℕ → ℕ → ℕ
big_endian file at zero = 0
big_endian file at (suc n) = big_endian file at n * 256 + get_or file (at + n) 0
