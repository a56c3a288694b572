-- Laws of low delay slices: where their bytes start, how many each has, how many bits its luma bit length takes, and what it leaves as it was.
-- Assumes nothing.
use mathlib.Core.Path.{◌≡◌, refl, sym, ap, ◌∙◌, subst}
use mathlib.Core.List.{List}
use Prim.Native.Nat.{ℕ, suc, ◌+◌, ◌-◌, ◌*◌, ◌/◌, ◌^◌, ◌≤◌, ◌<◌, max}
use native.Mathlib.Nat.{zero-mul, zero-div, pow-suc, le_trans, mul-le-mul, mul-le-mul_left, mul-le-mul_right, div-le_self, div-mul-le_self, lt-div-mul-add, div-lt_iff_lt-mul, le-div_iff_mul-le}
use native.Mathlib.Decide.{dec_lt}
use native.Mathlib.Omega.{arith}
use lib.IntN.{ℤ}
use lib.Pow.{pow_mono, pow_pos}
use lib.ListN.{length, take, drop, length-drop}
use lib.Seq.{length-take-le}
use borrow.Author.Tests.{lt-ltb, le-ltb}
use Rattle.std.specs.Prelude.{Result, Err}
use Rattle.std.specs.Int.{IsPowerOfTwo}
use Rattle.base.specs.Refusals.{number_of}
use Rattle.base.specs.declared.status.Fault.{Fault}
use Rattle.exp_golomb.specs.Bits.{bits_from}
use Rattle.coefficients.specs.Reading.{goes_on, stops}
use Rattle.slices.specs.Planes.{Planes}
use Rattle.slices.specs.Areas.{slice_count}
use Rattle.slices.specs.Parts.{Parts, refused, parts_values}
use Rattle.slices.specs.Reads.{Left}
use Rattle.slices.specs.Bounds.{Checked}
use Rattle.slices.specs.declared.parameters.Picture.{Picture}
use Rattle.slices.proofs.PartsLaws.{parts-refused}
use Rattle.slices.proofs.ReadsLaws.{left-refused}
use Rattle.slices.proofs.SliceFrame.{KeptOutside, slice-frame}
use Rattle.low_delay.specs.Slices.{slice_start, slice_size, length_bits, low_delay_parts, slice_parts, slice}
use Rattle.low_delay.specs.declared.parameters.LowDelay.{LowDelay}
use Rattle.low_delay.proofs.LengthBits.{length-bits, power-above}

-- the first slice starts at the first byte
pub start_none : (p : LowDelay) → slice_start p 0 ≡ 0
unfolding slice_start
start_none p = rw (zero-mul p.numerator) (zero-div p.denominator)

-- slice k starts no later than k numerators on
pub start-most : (p : LowDelay) (k : ℕ) → slice_start p k ≤ k * p.numerator
unfolding slice_start
start-most p k = div-le_self (k * p.numerator) p.denominator

module _ (p : LowDelay) (some : 1 ≤ p.denominator) where
  -- a later slice starts no earlier
  pub start-grows : (k l : ℕ) → k ≤ l → slice_start p k ≤ slice_start p l
  unfolding slice_start
  start-grows k l h = (le-div_iff_mul-le some).1 (le_trans (div-mul-le_self (k * p.numerator) p.denominator) (mul-le-mul_right p.numerator h))

  -- each ends where the next one starts
  pub start-next : (k : ℕ) → slice_start p k + slice_size p k ≡ slice_start p (suc k)
  unfolding slice_size
  start-next k = omega (arith, start-grows k (suc k) (omega arith))

  -- and has no more bytes than the numerator
  pub size-most : (k : ℕ) → slice_size p k ≤ p.numerator
  unfolding slice_size slice_start
  size-most k =
      let start = k * p.numerator / p.denominator in
      let over : k * p.numerator < start * p.denominator + p.denominator = lt-div-mul-add some in
      let more : p.numerator * 1 ≤ p.numerator * p.denominator = mul-le-mul_left p.numerator some in
      let next : suc k * p.numerator < (start + p.numerator + 1) * p.denominator = omega arith in
      omega (arith, (div-lt_iff_lt-mul some).1 next)

  -- a slice has a byte at least where the numerator is not below the denominator
  pub size-least : p.denominator ≤ p.numerator → (k : ℕ) → 1 ≤ slice_size p k
  unfolding slice_size slice_start
  size-least more k =
      let down = div-mul-le_self (k * p.numerator) p.denominator in
      let next : (k * p.numerator / p.denominator + 1) * p.denominator ≤ suc k * p.numerator = omega arith in
      omega (arith, (le-div_iff_mul-le some).1 next)

-- there are no more slices than their counts allow
pub count_most : (p : Picture) → Checked p → slice_count p ≤ 65025
unfolding slice_count
count_most p checked = mul-le-mul checked.across_most checked.down_most

-- a luma bit length takes at most 19 bits
pub length-bits-most : (size : ℕ) → size ≤ 65535 → length_bits size ≤ 19
length-bits-most size few = (length-bits size).least 19 (omega arith)

-- and the index's 7 bits and these lie in a slice that has a byte
pub length-bits-fit : (size : ℕ) → 1 ≤ size → 7 + length_bits size ≤ 8 * size
length-bits-fit size some = omega (arith, (length-bits size).least (8 * size - 7) (omega (arith, power-above (8 * size - 7))))

-- a power of 2 between one and the next
exponent-same : (n k : ℕ) → 2 ^ n ≤ 2 ^ k → 2 ^ k < 2 * 2 ^ n → n ≡ k
exponent-same n k low high =
    elim (dec_lt n k) [
      | yes less ↦ absurd (omega (arith, pow_mono {i = suc n} {j = k} less, pow-suc 2 n))
      | no not_less ↦
          elim (dec_lt k n) [
            | yes more ↦ absurd (omega (arith, pow_mono {i = suc k} {j = n} more, pow-suc 2 k, pow_pos k))
            | no not_more ↦ omega arith
          ]
    ]

-- the least power of 2 that is enough for a slice of so many bytes is that of its luma bit length
pub length-bits-found : (size power n : ℕ) → IsPowerOfTwo power → 8 * size - 7 ≤ power → power / 2 < max 1 (8 * size - 7) → 2 ^ n ≤ power → power < 2 * 2 ^ n → n ≡ length_bits size
length-bits-found size power n is enough less low high =
    let k = is.0 in
    let least = length-bits size in
    let bits = length_bits size in
    let same : n ≡ k = exponent-same n k (rw is.1 at low) (rw is.1 at high) in
    let below : bits ≤ k = least.least k (rw is.1 at enough) in
    let some : 1 ≤ 2 ^ bits = pow_pos bits in
    elim (dec_lt bits k) [
      | yes fewer ↦
          let double : 2 * 2 ^ bits ≤ power = omega (arith, is.1, pow_mono {i = suc bits} {j = k} fewer, pow-suc 2 bits) in
          absurd (omega (arith, least.enough))
      | no last ↦ omega arith
    ]

-- no bits are the number 0
pub bits_none : (bytes : List ℕ) (at : ℕ) → 0 ≡ bits_from bytes at 0
unfolding bits_from
bits_none bytes at = refl

-- a slice changes its own rectangles alone
pub slice-keeps : (p : LowDelay) (bytes : List ℕ) (k : ℕ) (planes : Planes) → KeptOutside p.picture k planes (slice p bytes k planes).plane
unfolding slice
slice-keeps p bytes k planes = slice-frame p.picture k (slice_parts p bytes k) (goes_on (8 * slice_start p k) planes)

-- so many bytes it has
pub size_is : (p : LowDelay) (k start next : ℕ) → start ≡ slice_start p k → next ≡ slice_start p (suc k) → next - start ≡ slice_size p k
unfolding slice_size
size_is p k start next start_is next-is = rw (start_is, next-is) refl

-- a slice from byte `start` up to byte `next`: one that is short of bytes, and one whose own bytes are all there
module _ (p : LowDelay) (bytes : List ℕ) (k start next : ℕ) (start_is : start ≡ slice_start p k) (next-is : next ≡ slice_start p (suc k)) (planes : Planes) where
  abbrev own_bytes : List ℕ
  own_bytes = take (next - start) (drop start bytes)

  pub slice-short : length bytes < next → stops 6 (8 * start) planes ≡ slice p bytes k planes
  unfolding slice slice_parts
  slice-short short =
      rw (← start_is, ← next-is, lt-ltb (length bytes) next short) (sym (parts-refused p.picture k 6 (8 * start) (8 * start) planes))

  module _ (there : next ≤ length bytes) where
    pub own-length : length own_bytes ≡ next - start
    own-length = length-take-le (next - start) (drop start bytes) (rw (length-drop start bytes) (omega arith))

    slice-there : parts_values p.picture k (low_delay_parts p.picture (length own_bytes) own_bytes (8 * start)) (goes_on (8 * start) planes) ≡ slice p bytes k planes
    unfolding slice slice_parts slice_size
    slice-there = rw (← start_is, ← next-is, le-ltb (length bytes) next there, own-length) refl

    -- what its parts leave is what it leaves
    pub slice-refused : (fault : Fault) (end : ℕ) (last : Planes) (run : List ℤ) → refused (number_of fault.refusal) fault.bit ≡ low_delay_parts p.picture (length own_bytes) own_bytes (8 * start) →
        Left end (Err fault) last run (slice p bytes k planes)
    slice-refused fault end last run is =
        left-refused end fault planes last run _
        (sym (parts-refused p.picture k (number_of fault.refusal) fault.bit (8 * start) planes) ∙ ap (λ (parts : Parts). parts_values p.picture k parts (goes_on (8 * start) planes)) is ∙ slice-there)

    pub slice-read : start ≤ next → (parts : Parts) → parts ≡ low_delay_parts p.picture (length own_bytes) own_bytes (8 * start) → (result : Result ℕ Fault) (last : Planes) (run : List ℤ) →
        ((at : ℕ) → Left (8 * start + 8 * length own_bytes) result last run (parts_values p.picture k parts (goes_on at planes))) → Left (8 * slice_start p (suc k)) result last run (slice p bytes k planes)
    slice-read forward parts is result last run left =
        let whole : 8 * start + 8 * length own_bytes ≡ 8 * slice_start p (suc k) = omega (arith, own-length, next-is) in
        rw (← slice-there, ← is) (subst (λ (n : ℕ). Left n result last run (parts_values p.picture k parts (goes_on (8 * start) planes))) whole (left (8 * start)))
