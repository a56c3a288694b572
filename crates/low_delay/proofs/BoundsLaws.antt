-- Laws of the code's own forms: the parts that a header announces, and three planes predicted one after the other.
-- Assumes nothing.
use mathlib.Core.Path.{◌≡◌}
use mathlib.Core.Bool.{Bool, true, false}
use mathlib.Core.List.{List}
use Prim.Native.Nat.{ℕ, ◌+◌, ◌*◌, ◌≤◌, ◌<◌}
use native.Mathlib.Omega.{arith}
use lib.Dec.{leb}
use lib.IntN.{ℤ}
use lib.ListN.{length}
use borrow.Author.Tests.{lt-ltb, le-ltb, leb-true}
use Rattle.std.specs.Prelude.{Ok, Err}
use Rattle.base.specs.declared.status.Refusal.TheVariants.{Quantiser, LumaLength}
use Rattle.base.proofs.EveryLaws.{all-at}
use Rattle.component.specs.Subbands.{subband_count}
use Rattle.exp_golomb.specs.Bits.{bits_from}
use Rattle.prediction.specs.Prediction.{ended}
use Rattle.slices.specs.Planes.{planes_of}
use Rattle.slices.specs.Areas.{luma_grid, chroma_grid, subband_index, indices_fit}
use Rattle.slices.specs.Bounds.{Indexed}
use Rattle.slices.specs.declared.parameters.Picture.{Picture}
use Rattle.low_delay.specs.Slices.{length_bits, low_delay_parts}
use Rattle.low_delay.specs.Job.{predicted_plane}
use Rattle.low_delay.specs.declared.headers.Header.{Header}
use Rattle.low_delay.specs.Bounds.{parts_of, SoundParts, prediction_fits, predicted_planes}

-- the index of every subband is in range where the test says so
pub indexed : (p : Picture) (index : ℕ) → indices_fit p index ≡ true → Indexed p index
unfolding indices_fit
indexed p index fit =
    record { each = λ k below. leb-true _ _ (all-at (λ i. leb (subband_index p index i) 115) (subband_count p.depth) k fit below) }

-- a header: its index, the bits that luma's length has, and the length
module _ (p : Picture) (bytes : List ℕ) (start index n luma : ℕ) (index_is : index ≡ bits_from bytes 0 7) (n-is : n ≡ length_bits (length bytes)) (luma-is : luma ≡ bits_from bytes 7 n) where
  pub header-long : 8 * length bytes < 7 + n + luma → parts_of bytes start (Err (record { refusal = LumaLength; bit = start + (7 + n) })) ≡ low_delay_parts p (length bytes) bytes start
  unfolding low_delay_parts
  header-long long = rw (← n-is, ← luma-is, lt-ltb _ _ long)

  module _ (inside : 7 + n + luma ≤ 8 * length bytes) where
    pub header-index : indices_fit p index ≡ false → parts_of bytes start (Err (record { refusal = Quantiser; bit = start + (7 + n) })) ≡ low_delay_parts p (length bytes) bytes start
    unfolding low_delay_parts
    header-index out = rw (← n-is, ← luma-is, ← index_is, le-ltb _ _ inside, out)

    module _ (fit : indices_fit p index ≡ true) where
      abbrev found : Header
      found = record { index = index; from = 7 + n; middle = 7 + n + luma }

      pub header_read : parts_of bytes start (Ok found) ≡ low_delay_parts p (length bytes) bytes start
      unfolding low_delay_parts
      header_read = rw (← n-is, ← luma-is, ← index_is, le-ltb _ _ inside, fit)

      pub header-sound : SoundParts p (length bytes) found
      header-sound = record { forward = omega arith; inside = inside; indexed = indexed p index fit }

-- three planes predicted one after the other, up to one with a value that does not fit
module _ (p : Picture) (luma first second : List ℤ) where
  pub luma-out : (last : List ℤ) → ended false last ≡ predicted_plane (luma_grid p) luma → false ≡ prediction_fits p (planes_of luma first second)
  unfolding prediction_fits
  luma-out last out = rw (← out)

  module _ (luma-last : List ℤ) (luma-is : ended true luma-last ≡ predicted_plane (luma_grid p) luma) where
    pub first_out : (last : List ℤ) → ended false last ≡ predicted_plane (chroma_grid p) first → false ≡ prediction_fits p (planes_of luma first second)
    unfolding prediction_fits
    first_out last out = rw (← luma-is, ← out)

    module _ (first-last : List ℤ) (first-is : ended true first-last ≡ predicted_plane (chroma_grid p) first)
        (second-last : List ℤ) (r : Bool) (second_is : ended r second-last ≡ predicted_plane (chroma_grid p) second) where
      pub all_told : r ≡ prediction_fits p (planes_of luma first second)
      unfolding prediction_fits
      all_told = rw (← luma-is, ← first-is, ← second_is)

      pub all_done : planes_of luma-last first-last second-last ≡ predicted_planes p (planes_of luma first second)
      unfolding predicted_planes
      all_done = rw (← luma-is, ← first-is, ← second_is)
