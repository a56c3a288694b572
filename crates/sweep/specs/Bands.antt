-- The code's own forms: the bands of a level put around the picture of the level below, pair of rows by pair of rows. No definition of the format
-- rests on them.
use Rattle.std.specs.Prelude.{ℕ, ◌+◌, ◌*◌, ◌/◌, ◌%◌, ◌≤◌, cond, List, eqb, ltb, ℤ, pos, length, get_or}
use Rattle.base.specs.Fill.{fill}
use Rattle.lines.specs.Buffers.{Within}
use Rattle.lifting.specs.Layout.{frame_picture}
use Rattle.filters.specs.Passes.{Picture}
use Rattle.filters.specs.Planes.{picture_of}
use Rattle.lifting.specs.declared.frame.Frame.{Frame}

-- A work plane with row r of each band put in a frame: HL beside row r of the picture below, LH and HH into the row after it.
abbrev pub with_band_row : Frame → ℕ → ℕ → List ℤ → List ℤ → List ℤ
with_band_row f padded r work coefficients =
    fill
    (fill work (2 * r * f.stride + f.band_columns) f.band_columns (λ x. get_or coefficients (r * padded + f.band_columns + x) (pos 0)))
    ((2 * r + 1) * f.stride) (2 * f.band_columns) (λ x. get_or coefficients ((f.band_rows + r) * padded + x) (pos 0))

-- The numbers in the two rows of pair r are within a size.
abbrev pub PairWithin : Frame → ℕ → ℕ → List ℤ → Type 0
PairWithin f r size work =
    Within work (2 * r * f.stride) (2 * f.band_columns) size × Within work ((2 * r + 1) * f.stride) (2 * f.band_columns) size

-- The bands of a frame's level lie in the coefficients, which have rows of a padded width.
abbrev pub BandsInside : Frame → ℕ → List ℤ → Type 0
BandsInside f padded coefficients = (2 * f.band_columns ≤ padded) × (2 * f.band_rows * padded ≤ length coefficients)

-- The interleaved picture as it stands in a frame, each row as two halves: the picture below and HL in the even rows, LH and HH in the odd ones.
unfoldable pub band_rows : Frame → ℕ → List ℤ → List ℤ → Picture
band_rows f padded work coefficients row x =
    cond (eqb (row % 2) 0)
    (cond (ltb x f.band_columns) (frame_picture f work row x) (picture_of padded coefficients (row / 2) x))
    (picture_of padded coefficients (f.band_rows + row / 2) x)
