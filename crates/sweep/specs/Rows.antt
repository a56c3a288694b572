-- The code's own forms: the rows of a frame, which stand there as two halves, filtered and stored; and the same of a whole picture. No definition of
-- the format rests on them.
use Rattle.std.specs.Prelude.{Bool, cond, ◌&&◌, List, map, ℕ, ◌+◌, ◌*◌, ◌≤◌, ◌<◌, ltb, ℤ, length}
use Rattle.base.specs.Fill.{fill}
use Rattle.lines.specs.Buffers.{shifted}
use Rattle.lifting.specs.Layout.{FrameFits, half_index, halves_made, halves_fit, run_on, numbers_fit}
use Rattle.filters.specs.Lifting.{Line}
use Rattle.filters.specs.Passes.{Picture, columns, rows}
use Rattle.filters.specs.Table.{filter_from}
use Rattle.lifting.specs.declared.frame.Frame.{Frame}
use Rattle.filters.specs.declared.filter.LiftingFilter.{LiftingFilter}
use Rattle.sweep.specs.declared.rows.Crop.{Crop}

-- A row of a frame that lies in a plane.
abbrev pub RowInside : Frame → ℕ → List ℤ → Type 0
RowInside f row plane = FrameFits f plane × (row < 2 * f.band_rows)

-- Samples that have room for the first rows and columns of a frame.
abbrev pub CropInside : Crop → Frame → List ℤ → Type 0
CropInside c f samples = (c.width ≤ 2 * f.band_columns) × (c.height * c.width ≤ length samples)

-- What the rows of a filter, with its shift, make of row `row` of a frame, which stands there as two halves; and whether their new numbers fit.
abbrev pub row_made : Frame → LiftingFilter → List ℤ → ℕ → Line
row_made f filter plane row = halves_made filter f.band_columns (row * f.stride) plane

abbrev pub row_fits : Frame → LiftingFilter → List ℤ → ℕ → Bool
row_fits f filter plane row = halves_fit filter f.band_columns (row * f.stride) plane

-- The same for both rows of pair k.
abbrev pub pair_fits : Frame → LiftingFilter → List ℤ → ℕ → Bool
pair_fits f filter plane k = row_fits f filter plane (2 * k) && row_fits f filter plane (2 * k + 1)

-- A plane with both rows of pair k stored in a frame.
abbrev pub with_pair : Frame → List ℤ → ℕ → Picture → List ℤ
with_pair f plane k P =
    fill (fill plane (2 * k * f.stride) (2 * f.band_columns) (P (2 * k))) ((2 * k + 1) * f.stride) (2 * f.band_columns) (P (2 * k + 1))

-- Samples with a row stored, where it is one of theirs; and with both rows of pair k.
unfoldable pub with_row : Crop → ℕ → Line → List ℤ → List ℤ
with_row c row line samples = cond (ltb row c.height) (fill samples (row * c.width) c.width line) samples

abbrev pub with_rows : Crop → ℕ → Picture → List ℤ → List ℤ
with_rows c k P samples = with_row c (2 * k + 1) (P (2 * k + 1)) (with_row c (2 * k) (P (2 * k)) samples)

-- A picture whose rows stand as two halves in a frame, as the picture that it stands for.
abbrev pub halved_of : Frame → Picture → Picture
halved_of f P row x = P row (half_index f.band_columns x)

-- What a filter makes of a picture that stands so: by its column steps, and by its row steps and its shift; and whether the new numbers of both fit.
module _ (f : Frame) (filter : LiftingFilter) where
  abbrev pub by_columns : Picture → Picture
  by_columns P = run_on f (map columns (filter_from filter).steps) P

  abbrev pub by_rows : Picture → Picture
  by_rows P row x = shifted filter.shift (run_on f (map rows (filter_from filter).steps) (halved_of f P) row x)

  abbrev pub both_fit : Picture → Bool
  both_fit P = numbers_fit f (map columns (filter_from filter).steps) P && numbers_fit f (map rows (filter_from filter).steps) (halved_of f (by_columns P))
