-- The code's own forms: how the picture of a level is laid out in a plane. No definition of the format rests on them.
use Rattle.std.specs.Prelude.{ℕ, ◌+◌, ◌*◌, ◌/◌, ◌%◌, ◌≤◌, Bool, cond, List, map, eqb, ℤ, pos, length, get_or}
use Rattle.lines.specs.Buffers.{shifted}
use Rattle.filters.specs.Lifting.{Line}
use Rattle.filters.specs.Filters.{Filter}
use Rattle.filters.specs.Pictures.{Agree}
use Rattle.filters.specs.Passes.{Picture, Pass, rows, run_all, all_new_fit}
use Rattle.filters.specs.Planes.{picture_of}
use Rattle.filters.specs.Table.{filter_from}
use Rattle.filters.specs.declared.filter.LiftingFilter.{LiftingFilter}
use Rattle.lifting.specs.declared.frame.Frame.{Frame}

-- The picture of a frame has rows and columns, no more than 4096, and its rows stand apart within the plane.
pub record FrameFits (f : Frame) (plane : List ℤ) : Type 0 where
  pub rows_least : 1 ≤ f.band_rows
  pub rows_most : f.band_rows ≤ 2048
  pub columns_least : 1 ≤ f.band_columns
  pub columns_most : f.band_columns ≤ 2048
  pub apart : 2 * f.band_columns ≤ f.stride
  pub inside : 2 * f.band_rows * f.stride ≤ length plane

-- The index of column x in a row that stands as two halves of b columns each: the even columns, then the odd ones.
unfoldable pub half_index : ℕ → ℕ → ℕ
half_index b x = cond (eqb (x % 2) 0) (x / 2) (b + x / 2)

-- The picture in a frame of a plane.
abbrev pub frame_picture : Frame → List ℤ → Picture
frame_picture f plane = picture_of f.stride plane

module _ (f : Frame) where
  -- Two pictures agree in a frame's rows and columns.
  abbrev pub AgreeOn : Picture → Picture → Type 0
  AgreeOn P Q = Agree (2 * f.band_rows) (2 * f.band_columns) P Q

  -- Passes over a frame's rows and columns, and whether the new numbers of all of them fit.
  abbrev pub run_on : List Pass → Picture → Picture
  run_on ps P = run_all (2 * f.band_rows) (2 * f.band_columns) ps P

  abbrev pub numbers_fit : List Pass → Picture → Bool
  numbers_fit ps P = all_new_fit (2 * f.band_rows) (2 * f.band_columns) ps P

-- The base of the half of the even elements in the line buffer, and of that of the odd ones.
abbrev pub base_of : Bool → ℕ
base_of even = cond even 0 2056

-- The row from an index of a plane on, that stands there as two halves.
abbrev pub half_line : ℕ → ℕ → List ℤ → Line
half_line half start plane x = get_or plane (start + half_index half x) (pos 0)

-- It has columns, no more than 4096, and lies in the plane.
abbrev pub HalvesInside : ℕ → ℕ → List ℤ → Type 0
HalvesInside half start plane = (1 ≤ half) × (half ≤ 2048) × (start + 2 * half ≤ length plane)

-- What steps make of a row of two halves, shifted or not, and whether their new numbers fit.
module _ (half : ℕ) (filter : Filter) (line : Line) where
  abbrev pub row_after : Line
  row_after x = run_all 1 (2 * half) (map rows filter.steps) (λ row. line) 0 x

  abbrev pub row_shifted : Line
  row_shifted x = shifted filter.shift (row_after x)

  abbrev pub row_numbers_fit : Bool
  row_numbers_fit = all_new_fit 1 (2 * half) (map rows filter.steps) (λ row. line)

-- The same of the row from an index of a plane on.
abbrev pub halves_made : LiftingFilter → ℕ → ℕ → List ℤ → Line
halves_made filter half start plane = row_shifted half (filter_from filter) (half_line half start plane)

abbrev pub halves_fit : LiftingFilter → ℕ → ℕ → List ℤ → Bool
halves_fit filter half start plane = row_numbers_fit half (filter_from filter) (half_line half start plane)
