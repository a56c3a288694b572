-- The code's own forms: what a swept level needs and what it makes. No definition of the format rests on them.
use Rattle.std.specs.Prelude.{◌≡◌, Bool, true, List, ℕ, ◌*◌, ◌≤◌, ℤ, length}
use Rattle.filters.specs.Passes.{Picture}
use Rattle.filters.specs.declared.filter.LiftingFilter.{LiftingFilter}
use Rattle.sweep.specs.Bands.{band_rows}
use Rattle.sweep.specs.declared.level.Level.{Level}
use Rattle.sweep.specs.Rows.{by_columns, by_rows, both_fit}
use Rattle.sweep.specs.LastStage.{finishes, crop_of, picture_left}

-- Where the samples are made, they have room for what is kept.
abbrev pub RoomFor : Level → List ℤ → Type 0
RoomFor level samples =
    finishes level ≡ true
    → ((crop_of level).width ≤ 2 * level.frame.band_columns)
    × ((crop_of level).height ≤ 2 * level.frame.band_rows)
    × ((crop_of level).height * (crop_of level).width ≤ length samples)

-- The picture that a level starts from, as it stands in a frame of the work plane once its bands are interleaved; whether all new numbers fit, the
-- picture that the filter makes of it, and what is left in the plane.
module _ (level : Level) (filter : LiftingFilter) (padded : ℕ) (work coefficients : List ℤ) where
  abbrev pub level_fits : Bool
  level_fits = both_fit level.frame filter (band_rows level.frame padded work coefficients)

  abbrev pub level_made : Picture
  level_made = by_rows level.frame filter (by_columns level.frame filter (band_rows level.frame padded work coefficients))

  abbrev pub level_left : Picture
  level_left = picture_left level filter (band_rows level.frame padded work coefficients)
