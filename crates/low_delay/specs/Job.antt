-- Document 02, request Four: what unpacking low delay slices answers and what it leaves in its three planes, for every input.
use Rattle.std.specs.Prelude.{ℕ, zero, suc, ◌*◌, Bool, not, cond, ◌&&◌, List, leb, eqb, ℤ, length, get_or}
use Rattle.base.specs.Every.{all_below}
use Rattle.component.specs.Checks.{in_range}
use Rattle.component.specs.Subbands.{subband_count, subband_at}
use Rattle.component.specs.declared.parameters.Answer.{Answer}
use Rattle.coefficients.specs.Reading.{Progress, At, Refused}
use Rattle.prediction.specs.Prediction.{Predicted, prediction}
use Rattle.slices.specs.Planes.{Planes, planes_of, zeros}
use Rattle.slices.specs.Areas.{luma_grid, chroma_grid, slice_count}
use Rattle.slices.specs.declared.parameters.Picture.{Picture}
use Rattle.slices.specs.declared.parameters.Grid.{Grid}
use Rattle.low_delay.specs.Slices.{slice_start, slice}
use Rattle.low_delay.specs.declared.parameters.LowDelay.{LowDelay}

-- What a call gives: its answer, and what the planes hold after it.
pub record LowDelayResult : Type 0 where
  pub status : ℕ
  pub place : ℕ
  pub planes : Planes

abbrev pub result : ℕ → ℕ → Planes → LowDelayResult
result status place planes = record { status = status; place = place; planes = planes }

-- What a call gave: its answer, and what stood in the planes when it returned.
unfoldable pub outcome : Answer → List ℤ → List ℤ → List ℤ → LowDelayResult
outcome answer luma first second = result answer.status answer.place (planes_of luma first second)

-- "width and height 1..4096": "luma with its own size, the chroma pair with another"
unfoldable pub sizes_in_range : Picture → Bool
sizes_in_range p =
    in_range 1 4096 p.luma_width && in_range 1 4096 p.luma_height
    && in_range 1 4096 p.chroma_width && in_range 1 4096 p.chroma_height

-- "Slices: 1..255 across and down"
unfoldable pub counts_in_range : Picture → Bool
counts_in_range p = in_range 1 255 p.slices_across && in_range 1 255 p.slices_down

-- "bytes are a fraction num/den, each 1..65535", and no "num below den"
unfoldable pub fraction_in_range : LowDelay → Bool
fraction_in_range p = in_range 1 65535 p.numerator && in_range 1 65535 p.denominator && leb p.denominator p.numerator

-- no "used matrix entry above 127": "one per subband"
unfoldable pub matrix_in_range : Picture → Bool
matrix_in_range p = all_below (subband_count p.depth) (λ k. leb (get_or p.matrix k 0) 127)

-- "13 for a bad count or fraction, num below den, or a used matrix entry above 127"
unfoldable pub slices_in_range : LowDelay → Bool
slices_in_range p = counts_in_range p.picture && fraction_in_range p && matrix_in_range p.picture

-- "Coefficient .. planes need padded width times padded height entries"
abbrev pub entries_of : Grid → ℕ
entries_of g = g.width * g.height

unfoldable pub planes_fit : Picture → Planes → Bool
planes_fit p planes =
    eqb (length planes.luma) (entries_of (luma_grid p))
    && eqb (length planes.first) (entries_of (chroma_grid p)) && eqb (length planes.second) (entries_of (chroma_grid p))

-- "13 .., after 2 and before 5 (3 and 4 don't arise)". 0 where no check applies.
unfoldable pub refusal_of : LowDelay → Planes → ℕ
refusal_of p planes =
    cond (not (sizes_in_range p.picture)) 1
    (cond (not (in_range 0 4 p.picture.depth)) 2
    (cond (not (slices_in_range p)) 13
    (cond (not (planes_fit p.picture planes)) 5
    0)))

-- Prediction of level 0 of a component.
unfoldable pub predicted_plane : Grid → List ℤ → Predicted
predicted_plane g plane =
    let low = subband_at g.depth g.width g.height 0 in
    prediction g.width low.width low.height plane

-- "Place is the slice number"; "14 leaves zeros", as 6 to 9 do
unfoldable pub after_slice : ℕ → Progress → Planes → (Planes → LowDelayResult) → Planes → LowDelayResult
after_slice k (At bit) after go before = go after
after_slice k (Refused status bit) after go before = result status k (zeros before)

module _ (p : LowDelay) where
  abbrev picture : Picture
  picture = p.picture

  -- "Bytes used end with the last slice."
  unfoldable pub accepted : Planes → LowDelayResult
  accepted planes = result 0 (slice_start p (slice_count picture)) planes

  -- "for a refusal in prediction it is the number of slices"; 9 where "an unpacked or predicted value is outside signed 32 bits"
  unfoldable pub predicted : Planes → LowDelayResult
  predicted planes =
      let luma = predicted_plane (luma_grid picture) planes.luma in
      let first = predicted_plane (chroma_grid picture) planes.first in
      let second = predicted_plane (chroma_grid picture) planes.second in
      cond (luma.fits && first.fits && second.fits)
      (accepted (planes_of luma.plane first.plane second.plane))
      (result 9 (slice_count picture) (zeros planes))

  -- "prediction, if intra, comes after all slices"
  unfoldable pub finished : Planes → LowDelayResult
  finished planes = cond picture.intra (predicted planes) (accepted planes)

module _ (p : LowDelay) (bytes : List ℕ) where
  -- n slices from slice k on: "Slices come in raster order."
  unfoldable pub slices_from : ℕ → ℕ → Planes → LowDelayResult
  slices_from zero k planes = finished p planes
  slices_from (suc n) k planes =
      let r = slice p bytes k planes in
      after_slice k r.progress r.plane (slices_from n (suc k)) planes

  -- "13 has place 0 and changes no plane", as 1, 2 and 5 do; then the slices, over zeros
  unfoldable pub unpacked : Planes → LowDelayResult
  unpacked planes =
      let status = refusal_of p planes in
      cond (eqb status 0) (slices_from (slice_count p.picture) 0 (zeros planes)) (result status 0 planes)
