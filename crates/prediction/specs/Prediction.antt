-- Document 01, "One subband": intra DC prediction of level 0.
use Rattle.std.specs.Prelude.{ℕ, zero, suc, ◌+◌, ◌*◌, Bool, true, false, cond, List, ℤ, pos, ◌+ℤ◌, get_or, set}
use Rattle.base.specs.Floor.{floor_div}
use Rattle.base.specs.Range.{fits32}
use Rattle.base.specs.Walk.{walk}

-- Prediction so far: whether every predicted value fits signed 32 bits, and the plane. It ends at the first that does not.
pub record Predicted : Type 0 where
  pub fits : Bool
  pub plane : List ℤ

abbrev pub ended : Bool → List ℤ → Predicted
ended fits plane = record { fits = fits; plane = plane }

-- "floor((left + upper left + upper + 1)/3)"
unfoldable pub mean_of : ℤ → ℤ → ℤ → ℤ
mean_of left corner upper = floor_div (left +ℤ corner +ℤ upper +ℤ pos 1) 3

-- "add 0 at the corner; the left value in the top row; the upper value in the left column; else floor((left + upper left + upper + 1)/3)"
unfoldable pub predictor : ℕ → List ℤ → ℕ → ℕ → ℤ
predictor stride plane zero zero = pos 0
predictor stride plane zero (suc x) = get_or plane x (pos 0)
predictor stride plane (suc y) zero = get_or plane (y * stride) (pos 0)
predictor stride plane (suc y) (suc x) =
    mean_of (get_or plane (suc y * stride + x) (pos 0)) (get_or plane (y * stride + x) (pos 0)) (get_or plane (y * stride + suc x) (pos 0))

-- A predicted value stored at an index, where it fits.
unfoldable pub store_predicted : ℤ → ℕ → List ℤ → Predicted
store_predicted v index plane = cond (fits32 v) (ended true (set plane index v)) (ended false plane)

module _ (stride : ℕ) where
  -- one value, "from values already predicted"
  unfoldable pub predicted_value : ℕ → ℕ → Predicted → Predicted
  predicted_value y x s =
      cond s.fits (store_predicted (get_or s.plane (y * stride + x) (pos 0) +ℤ predictor stride s.plane y x) (y * stride + x) s.plane) s

  -- "predicted in raster order"
  unfoldable pub predicted_row : ℕ → ℕ → Predicted → Predicted
  predicted_row width y s = walk (predicted_value y) 0 width s

  unfoldable pub prediction : ℕ → ℕ → List ℤ → Predicted
  prediction width height plane = walk (predicted_row width) 0 height (ended true plane)
