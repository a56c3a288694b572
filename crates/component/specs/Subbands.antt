-- Document 01, "Sizes and the coefficient plane": the subbands in stream order, and where each stands in the coefficient plane.
use Rattle.std.specs.Prelude.{ℕ, zero, suc, ◌+◌, ◌*◌, ◌/◌, ◌%◌, ◌≤◌, ◌<◌, cond, eqb}
use Rattle.component.specs.Sizes.{band_size}
use Rattle.component.specs.declared.subbands.Subband.{Subband}

-- The four kinds of subband: low or high across, then low or high down.
pub data Orientation : Type 0 where
  LL HL LH HH : Orientation

-- "Stream order is 0-LL, then HL, LH, HH of level 1, 2 and on."
abbrev pub subband_count : ℕ → ℕ
subband_count depth = 1 + 3 * depth

unfoldable pub subband_level : ℕ → ℕ
subband_level k = (k + 2) / 3

-- HL, LH, HH are 1, 2 and 3 of level 1, 4, 5 and 6 of level 2, and so on: what is left of k by 3 tells which.
unfoldable pub detail_of : ℕ → Orientation
detail_of zero = HH
detail_of (suc zero) = HL
detail_of (suc (suc r)) = LH

unfoldable pub orientation_of : ℕ → Orientation
orientation_of k = cond (eqb k 0) LL (detail_of (k % 3))

-- "LL is top left. At level n with band size bw by bh: HL starts at column bw, row 0; LH at column 0, row bh; HH at column bw, row bh."
unfoldable pub left_of : Orientation → ℕ → ℕ
left_of LL bw = 0
left_of HL bw = bw
left_of LH bw = 0
left_of HH bw = bw

unfoldable pub top_of : Orientation → ℕ → ℕ
top_of LL bh = 0
top_of HL bh = 0
top_of LH bh = bh
top_of HH bh = bh

-- Subband k in stream order, of a padded width and height.
unfoldable pub subband_at : ℕ → ℕ → ℕ → ℕ → Subband
subband_at depth pw ph k =
    record {
      level = subband_level k;
      left = left_of (orientation_of k) (band_size depth pw (subband_level k));
      top = top_of (orientation_of k) (band_size depth ph (subband_level k));
      width = band_size depth pw (subband_level k);
      height = band_size depth ph (subband_level k);
    }

-- A row and a column of the coefficient plane lie in the subband.
pub record InSubband (s : Subband) (row column : ℕ) : Type 0 where
  pub below_top : s.top ≤ row
  pub above_bottom : row < s.top + s.height
  pub right_of_left : s.left ≤ column
  pub left_of_right : column < s.left + s.width
