-- The code's own forms: pictures that passed the checks, components whose slices the code can find, and tables of small values.
-- No definition of the format rests on them.
use Rattle.std.specs.Prelude.{ℕ, ◌*◌, ◌≤◌, ◌<◌, ◌≡◌, Bool, true, List, [], ℤ, length, get_or}
use Rattle.component.specs.Sizes.{padded_size}
use Rattle.component.specs.Subbands.{subband_count}
use Rattle.coefficients.specs.Quantiser.{dequantise}
use Rattle.coefficients.specs.Scaling.{scale_of, small_fit, Small}
use Rattle.coefficients.specs.declared.reading.Quantiser.{Quantiser}
use Rattle.slices.specs.Areas.{luma_grid, chroma_grid, subband_index}
use Rattle.slices.specs.declared.parameters.Picture.{Picture}
use Rattle.slices.specs.declared.parameters.Grid.{Grid}

-- A picture that passed the checks of its sizes, depth and counts.
pub record Checked (p : Picture) : Type 0 where
  pub shallow : p.depth ≤ 4
  pub luma_width_most : p.luma_width ≤ 4096
  pub luma_height_most : p.luma_height ≤ 4096
  pub chroma_width_most : p.chroma_width ≤ 4096
  pub chroma_height_most : p.chroma_height ≤ 4096
  pub across_least : 1 ≤ p.slices_across
  pub across_most : p.slices_across ≤ 255
  pub down_least : 1 ≤ p.slices_down
  pub down_most : p.slices_down ≤ 255

-- Its planes have the lengths that they need.
pub record Lengths (p : Picture) (luma first second : List ℤ) : Type 0 where
  pub luma_long : length luma ≡ (luma_grid p).width * (luma_grid p).height
  pub first_long : length first ≡ (chroma_grid p).width * (chroma_grid p).height
  pub second_long : length second ≡ (chroma_grid p).width * (chroma_grid p).height

-- The index of every subband is in range.
pub record Indexed (p : Picture) (index : ℕ) : Type 0 where
  pub each : (k : ℕ) → k < subband_count p.depth → subband_index p index k ≤ 115

-- A component has padded sizes, which padding leaves as they are, and counts in range.
pub record Whole (g : Grid) : Type 0 where
  pub shallow : g.depth ≤ 4
  pub width_padded : g.width ≡ padded_size g.depth g.width
  pub height_padded : g.height ≡ padded_size g.depth g.height
  pub width_most : g.width ≤ 4096
  pub height_most : g.height ≤ 4096
  pub across_least : 1 ≤ g.across
  pub across_most : g.across ≤ 255
  pub down_least : 1 ≤ g.down
  pub down_most : g.down ≤ 255

-- A table has the small values of every index below n, in a picture that is intra or not.
pub record KnowsSmall (intra : Bool) (n : ℕ) (table : List (List ℤ)) : Type 0 where
  pub each : (index : ℕ) → index < n → (q : Quantiser) → scale_of q ≡ dequantise intra index → small_fit q ≡ true → Small (scale_of q) (get_or table index [])
