-- The code's own forms: the last stage of a sweep, which filters rows and leaves them in the plane or finishes them into the samples. No definition
-- of the format rests on them.
use Rattle.std.specs.Prelude.{◌≡◌, Bool, true, cond, is_some, List, ℕ, ◌+◌, ◌*◌, ℤ, pos}
use Rattle.std.specs.Option.{unwrap_or}
use Rattle.filters.specs.Passes.{Picture}
use Rattle.filters.specs.declared.filter.LiftingFilter.{LiftingFilter}
use Rattle.sweep.specs.declared.level.Level.{Level}
use Rattle.sweep.specs.declared.rows.Crop.{Crop}
use Rattle.sweep.specs.Pairs.{PairsPut}
use Rattle.sweep.specs.Rows.{CropInside, row_made, with_pair, with_row, with_rows, by_columns, by_rows}

-- Whether the rows of a level are finished into the samples, and then their sizes.
abbrev pub finishes : Level → Bool
finishes level = is_some level.crop

abbrev pub crop_of : Level → Crop
crop_of level = unwrap_or level.crop (record { width = 0; height = 0 })

-- Where the samples are made, they have room for what is kept of a row.
abbrev pub RowRoom : Level → List ℤ → Type 0
RowRoom level samples = finishes level ≡ true → CropInside (crop_of level) level.frame samples

-- What is left in the plane of the rows of a level: zeros where they are finished into the samples, else what is made of them.
abbrev pub rows_left : Level → LiftingFilter → List ℤ → Picture
rows_left level filter plane row = cond (finishes level) (λ x. pos 0) (row_made level.frame filter plane row)

-- How many pairs the last stage lags behind.
abbrev pub rows_lag : Level → LiftingFilter → ℕ
rows_lag level filter = (filter.count + 1) * level.gap

-- What is left in the plane once the rows of pair k are filtered; and in the samples once a row is, or those of pair k are.
abbrev pub pair_left : Level → LiftingFilter → ℕ → List ℤ → List ℤ
pair_left level filter k plane = with_pair level.frame plane k (rows_left level filter plane)

abbrev pub row_kept : Level → LiftingFilter → ℕ → List ℤ → List ℤ → List ℤ
row_kept level filter row plane samples =
    cond (finishes level) (with_row (crop_of level) row (row_made level.frame filter plane row) samples) samples

abbrev pub samples_left : Level → LiftingFilter → ℕ → List ℤ → List ℤ → List ℤ
samples_left level filter k plane samples =
    cond (finishes level) (with_rows (crop_of level) k (row_made level.frame filter plane) samples) samples

-- The rows of the pairs from one on to another stand in the samples, as far as these go; the rows of the others are as they were.
abbrev pub SamplesPut : Crop → ℕ → ℕ → Picture → List ℤ → List ℤ → Type 0
SamplesPut c from to P samples samples' = PairsPut c.width c.height c.width from to P samples samples'

-- What a sweep leaves in its plane: zeros where it finishes the rows into the samples, else the picture.
abbrev pub picture_left : Level → LiftingFilter → Picture → Picture
picture_left level filter P row x = cond (finishes level) (pos 0) (by_rows level.frame filter (by_columns level.frame filter P) row x)
