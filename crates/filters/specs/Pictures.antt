-- The code's own forms: pictures that agree in their first rows and columns; the row that a step changes in a pair of rows, and the rows that its
-- taps read. No definition of the format rests on them.
use Rattle.std.specs.Prelude.{◌≡◌, Bool, cond, ℕ, ◌+◌, ◌-◌, ◌*◌, ◌<◌, min}
use Rattle.filters.specs.Passes.{Picture}

-- Two pictures agree in their first h rows and w columns.
abbrev pub Agree : ℕ → ℕ → Picture → Picture → Type 0
Agree h w P Q = (row column : ℕ) → row < h → column < w → P row column ≡ Q row column

-- The row that a step changes, and the row that a tap reads, for bands of b rows: the sums of row pair k start 4 before the first tap.
unfoldable pub target_row : Bool → ℕ → ℕ
target_row even k = 2 * k + cond even 0 1

unfoldable pub source_row : Bool → ℕ → ℕ → ℕ
source_row even b s = 2 * min (s - 4) (b - 1) + cond even 1 0
