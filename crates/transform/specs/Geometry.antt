-- The code's own forms: how the levels of a component share the work plane. No definition of the format rests on them.
use Rattle.std.specs.Prelude.{ℕ, suc, ◌-◌, ◌*◌, ◌^◌, ◌≤◌, ◌<◌, ◌≡◌, ◌≢◌, Bool, Result, Ok, Err, List, ℤ, length}
use Rattle.base.specs.Lists.{zeros_like}
use Rattle.component.specs.Sizes.{size_at, padded_width, low_height, low_width}
use Rattle.component.specs.declared.parameters.Parameters.{Parameters}
use Rattle.filters.specs.Pictures.{Agree}
use Rattle.filters.specs.Passes.{Picture, run_all, all_new_fit}
use Rattle.filters.specs.Planes.{picture_of}
use Rattle.filters.specs.Table.{filter_from}
use Rattle.filters.specs.declared.filter.LiftingFilter.{LiftingFilter}
use Rattle.transform.specs.Synthesis.{synthesis_passes, interleave, synthesis, first_bad_level}
use Rattle.transform.specs.declared.levels.Extent.{Extent}

-- The sizes of a component that has passed the checks, and the length of its coefficient and work planes.
pub record Geometry (e : Extent) (area : ℕ) : Type 0 where
  pub depth_most : e.depth ≤ 4
  pub rows_least : 1 ≤ e.low_rows
  pub columns_least : 1 ≤ e.low_columns
  pub width : e.padded_width ≡ size_at e.low_columns e.depth
  pub width_most : e.padded_width ≤ 4096
  pub height_most : size_at e.low_rows e.depth ≤ 4096
  pub whole : size_at e.low_rows e.depth * e.padded_width ≡ area
  pub narrower : e.width ≤ size_at e.low_columns e.depth
  pub shorter : e.height ≤ size_at e.low_rows e.depth

-- Planes of the lengths that the sizes ask for.
abbrev pub Planes : Extent → List ℤ → List ℤ → List ℤ → Type 0
Planes e work samples coefficients = Geometry e (length work) × (length coefficients ≡ length work) × (e.height * e.width ≤ length samples)

-- The sizes that parameters give.
unfoldable pub extent_of : Parameters → Extent
extent_of p = record { padded_width = padded_width p; low_rows = low_height p; low_columns = low_width p; depth = p.depth; width = p.width; height = p.height }

-- The picture of a coefficient plane; and the picture of depth n in the work plane, its rows the padded width times 2^(depth − n) apart.
abbrev pub coefficient_picture : Extent → List ℤ → Picture
coefficient_picture e coefficients = picture_of e.padded_width coefficients

abbrev pub work_picture : Extent → ℕ → List ℤ → Picture
work_picture e n work = picture_of (e.padded_width * 2 ^ (e.depth - n)) work

module _ (f : LiftingFilter) (e : Extent) where
  -- What synthesis makes up to depth n, and the first of its levels that leaves signed 32 bits, or 0.
  abbrev pub picture_at : List ℤ → ℕ → Picture
  picture_at coefficients n = synthesis (filter_from f) e.low_rows e.low_columns (coefficient_picture e coefficients) n

  abbrev pub first_bad_at : List ℤ → ℕ → ℕ
  first_bad_at coefficients n = first_bad_level (filter_from f) e.low_rows e.low_columns (coefficient_picture e coefficients) n

  -- What level n + 1 makes of the picture that it starts from, and whether its new numbers fit.
  abbrev pub level_picture : ℕ → Picture → Picture
  level_picture n P = run_all (size_at e.low_rows (suc n)) (size_at e.low_columns (suc n)) (synthesis_passes (filter_from f)) P

  abbrev pub level_numbers_fit : ℕ → Picture → Bool
  level_numbers_fit n P = all_new_fit (size_at e.low_rows (suc n)) (size_at e.low_columns (suc n)) (synthesis_passes (filter_from f)) P

-- Ok tells that no level is bad, and an error the first that is.
abbrev pub TellsBad : Result (Unit {0}) ℕ → ℕ → Type 0
TellsBad (Ok done) bad = bad ≡ 0
TellsBad (Err level) bad = (bad ≡ level) × (level ≢ 0)

-- The picture that level n + 1 starts from: its bands around the picture of depth n in the work plane.
abbrev pub level_input : Extent → List ℤ → List ℤ → ℕ → Picture
level_input e work coefficients n =
    interleave (size_at e.low_rows n) (size_at e.low_columns n) (work_picture e n work) (coefficient_picture e coefficients)

-- Where the picture of depth n stands in the end: in the work plane; or, where it is the component's, its first rows and columns in the samples,
-- and the work plane holds zeros.
pub record Stands (e : Extent) (n : ℕ) (P : Picture) (work₀ work samples : List ℤ) : Type 0 where
  pub in_work : n < e.depth → Agree (size_at e.low_rows n) (size_at e.low_columns n) (work_picture e n work) P
  pub in_samples : n ≡ e.depth → Agree e.height e.width (picture_of e.width samples) P
  pub cleared : n ≡ e.depth → work ≡ zeros_like work₀
