-- Document 02, request Four: one low delay slice.
use Rattle.std.specs.Prelude.{ℕ, zero, suc, ◌+◌, ◌-◌, ◌*◌, ◌/◌, ◌^◌, not, cond, List, leb, ltb, length, take, drop}
use Rattle.exp_golomb.specs.Bits.{bits_from}
use Rattle.coefficients.specs.Reading.{RunOf, goes_on}
use Rattle.slices.specs.Planes.{Planes}
use Rattle.slices.specs.Areas.{indices_fit}
use Rattle.slices.specs.Parts.{Parts, part, ends, refused, parts_values}
use Rattle.slices.specs.declared.parameters.Picture.{Picture}
use Rattle.slices.specs.declared.parameters.Holder.TheVariants.{Luma, Both}
use Rattle.low_delay.specs.declared.parameters.LowDelay.{LowDelay}

-- "slice k has floor((k+1)num/den) − floor(k·num/den) bytes": it starts at the byte where the one before it ends
unfoldable pub slice_start : LowDelay → ℕ → ℕ
slice_start p k = k * p.numerator / p.denominator

unfoldable pub slice_size : LowDelay → ℕ → ℕ
slice_size p k = slice_start p (suc k) - slice_start p k

-- "as many bits as the least n with 2^n ≥ 8·bytes − 7": the first number from n on whose power of 2 is m or more, of so many
unfoldable pub least_power : ℕ → ℕ → ℕ → ℕ
least_power zero n m = n
least_power (suc more) n m =
    let later = least_power more (suc n) m in
    cond (leb m (2 ^ n)) n later

unfoldable pub length_bits : ℕ → ℕ
length_bits size = least_power (8 * size - 7) 0 (8 * size - 7)

-- The parts of a slice of so many bytes, which starts at a bit of all bytes: "Each begins with 7 bits of index, then the luma bit length";
-- "14 when the luma length exceeds the bits left, before 8"; "8 looks at every subband's index before any value is read"; "Luma subbands
-- follow in stream order, then chroma in the rest".
unfoldable pub low_delay_parts : Picture → ℕ → List ℕ → ℕ → Parts
low_delay_parts p size bytes start =
    let index = bits_from bytes 0 7 in
    let from = 7 + length_bits size in
    let middle = from + bits_from bytes 7 (length_bits size) in
    cond (ltb (8 * size) middle) (refused 14 (start + from))
    (cond (not (indices_fit p index)) (refused 8 (start + from))
    (part index (record { bytes = bytes; origin = start; from = from; to = middle }) Luma
    (part index (record { bytes = bytes; origin = start; from = middle; to = 8 * size }) Both
    (ends (start + 8 * size)))))

module _ (p : LowDelay) (bytes : List ℕ) where
  -- "a slice short of bytes is 6, checked first"
  unfoldable pub slice_parts : ℕ → Parts
  slice_parts k =
      cond (ltb (length bytes) (slice_start p (suc k))) (refused 6 (8 * slice_start p k))
      (low_delay_parts p.picture (slice_size p k) (take (slice_size p k) (drop (slice_start p k) bytes)) (8 * slice_start p k))

  -- Slice k, read into planes.
  unfoldable pub slice : ℕ → Planes → RunOf Planes
  slice k planes = parts_values p.picture k (slice_parts k) (goes_on (8 * slice_start p k) planes)
