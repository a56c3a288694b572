-- The code's own forms: fractions that passed the checks, planes by their lengths, the parts that a header announces, and three planes predicted.
-- No definition of the format rests on them.
use Rattle.std.specs.Prelude.{ℕ, ◌+◌, ◌*◌, ◌≤◌, ◌≡◌, Bool, ◌&&◌, Result, Ok, Err, List, length}
use Rattle.base.specs.Refusals.{number_of}
use Rattle.base.specs.declared.status.Fault.{Fault}
use Rattle.slices.specs.Planes.{Planes, planes_of}
use Rattle.slices.specs.Areas.{luma_grid, chroma_grid}
use Rattle.slices.specs.Bounds.{Indexed}
use Rattle.slices.specs.Parts.{Parts, part, ends, refused}
use Rattle.slices.specs.declared.parameters.Picture.{Picture}
use Rattle.slices.specs.declared.parameters.Holder.TheVariants.{Luma, Both}
use Rattle.low_delay.specs.Job.{predicted_plane}
use Rattle.low_delay.specs.declared.parameters.LowDelay.{LowDelay}
use Rattle.low_delay.specs.declared.slice.TwoParts.{TwoParts}
use Rattle.low_delay.specs.declared.headers.Header.{Header}

-- A fraction that passed its check.
pub record SoundFraction (p : LowDelay) : Type 0 where
  pub denominator_least : 1 ≤ p.denominator
  pub denominator_most : p.denominator ≤ p.numerator
  pub numerator_most : p.numerator ≤ 65535

-- Planes have these lengths.
pub record PlanesOfLengths (luma first second : ℕ) (planes : Planes) : Type 0 where
  pub luma_long : length planes.luma ≡ luma
  pub first_long : length planes.first ≡ first
  pub second_long : length planes.second ≡ second

-- The parts of a slice by its bytes, the bit at which these start, and what its header says: luma's, and then those of C1 and C2 in the rest.
abbrev pub parts_of : List ℕ → ℕ → Result Header Fault → Parts
parts_of bytes start (Err fault) = refused (number_of fault.refusal) fault.bit
parts_of bytes start (Ok header) =
    part header.index (record { bytes = bytes; origin = start; from = header.from; to = header.middle }) Luma
    (part header.index (record { bytes = bytes; origin = start; from = header.middle; to = 8 * length bytes }) Both
    (ends (start + 8 * length bytes)))

-- The parts lie in a slice of so many bytes, and the index of every subband is in range.
pub record SoundParts (p : Picture) (size : ℕ) (header : Header) : Type 0 where
  pub forward : header.from ≤ header.middle
  pub inside : header.middle ≤ 8 * size
  pub indexed : Indexed p header.index

-- Three planes predicted: whether every value fits, and the planes after it.
unfoldable pub prediction_fits : Picture → Planes → Bool
prediction_fits p planes =
    (predicted_plane (luma_grid p) planes.luma).fits && (predicted_plane (chroma_grid p) planes.first).fits
    && (predicted_plane (chroma_grid p) planes.second).fits

unfoldable pub predicted_planes : Picture → Planes → Planes
predicted_planes p planes =
    planes_of (predicted_plane (luma_grid p) planes.luma).plane (predicted_plane (chroma_grid p) planes.first).plane
    (predicted_plane (chroma_grid p) planes.second).plane

-- The parts that a header announced, as the code has them.
abbrev pub announced : List ℕ → TwoParts → Parts
announced bytes t = parts_of bytes t.start (Ok t.header)
