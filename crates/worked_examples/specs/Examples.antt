-- Document 01, "Bench readings": its twelve rows, as one table. A row has the numbers that the contracts' definitions give, and those that
-- document 01 says; proofs/WorkedExamples.antt proves them equal.
use Rattle.std.specs.Prelude.{ℕ, ◌-◌, ◌*◌, ◌^◌, true, false, cond, List, [], ◌∷◌, map, eqb, ℤ, pos, neg_ℤ, length}
use Rattle.base.specs.Lists.{tabulate}
use Rattle.base.specs.Sign.{with_sign}
use Rattle.exp_golomb.specs.Codes.{Number, Read, Missing, TooLong, unsigned, signed}
use Rattle.filters.specs.Filters.{filter_of}
use Rattle.filters.specs.Passes.{Pass, rows, halve, run_all}
use Rattle.filters.specs.Planes.{picture_of, raster}
use Rattle.coefficients.specs.Quantiser.{quant_factor, dequantise}
use Rattle.prediction.specs.Prediction.{mean_of}

pub record Row : Type 0 where
  pub computed : List ℤ
  pub expected : List ℤ

infix 70 ◌is◌
abbrev pub ◌is◌ : List ℤ → List ℤ → Row
computed is expected = record { computed = computed; expected = expected }

abbrev minus : ℕ → ℤ
minus n = neg_ℤ (pos n)

-- A byte that starts with so many bits, which are given as a number in binary.
abbrev byte_from : ℕ → ℕ → ℕ
byte_from count bits = bits * 2 ^ (8 - count)

-- The number that was read, if its code takes exactly so many bits; no number otherwise.
unfoldable pub read_from : ℕ → Number → List ℤ
read_from count (Read size minus next) = cond (eqb next count) (with_sign size minus ∷ []) []
read_from count (Missing next) = []
read_from count (TooLong next) = []

-- The unsigned and the signed number whose code is so many bits.
abbrev unsigned_code : ℕ → ℕ → List ℤ
unsigned_code count bits = read_from count (unsigned (byte_from count bits ∷ []) count false 0)

abbrev signed_code : ℕ → ℕ → List ℤ
signed_code count bits = read_from count (signed (byte_from count bits ∷ []) count false 0)

-- A line after passes over the picture that has it as its only row.
abbrev passed_over : List Pass → List ℤ → List ℤ
passed_over passes line = raster 1 (length line) (run_all 1 (length line) passes (picture_of (length line) line))

-- A line after the steps of a filter, without its shift.
abbrev filtered : ℕ → List ℤ → List ℤ
filtered wavelet line = passed_over (map rows (filter_of wavelet).steps) line

unfoldable pub table : List Row
table =
    -- "bits 1, 001, 011, 00001 and 00011 are 0, 1, 2, 3, 4"
    unsigned_code 1 0b1 is (pos 0 ∷ [])
    ∷ unsigned_code 3 0b001 is (pos 1 ∷ [])
    ∷ unsigned_code 3 0b011 is (pos 2 ∷ [])
    ∷ unsigned_code 5 0b00001 is (pos 3 ∷ [])
    ∷ unsigned_code 5 0b00011 is (pos 4 ∷ [])
    -- "0011 signed is −1"
    ∷ signed_code 4 0b0011 is (minus 1 ∷ [])
    -- "factors 0 to 8 are 4, 5, 6, 7, 8, 10, 11, 13, 16"
    ∷ tabulate 9 (λ q. pos (quant_factor q)) is map pos (4 ∷ 5 ∷ 6 ∷ 7 ∷ 8 ∷ 10 ∷ 11 ∷ 13 ∷ 16 ∷ [])
    -- "−3 at index 5 is −9": document 01 has the intra offset alone
    ∷ (with_sign (dequantise true 5 3) true ∷ []) is (minus 9 ∷ [])
    -- "index 1 filters [10, 4] to [8, 12]"
    ∷ filtered 1 (pos 10 ∷ pos 4 ∷ []) is (pos 8 ∷ pos 12 ∷ [])
    -- "index 3 filters [7, −2] to [8, 6]"
    ∷ filtered 3 (pos 7 ∷ minus 2 ∷ []) is (pos 8 ∷ pos 6 ∷ [])
    -- "shift 1 takes −5 to −2"
    ∷ passed_over (halve ∷ []) (minus 5 ∷ []) is (minus 2 ∷ [])
    -- "prediction from −1, −1, 0 is −1"
    ∷ (mean_of (minus 1) (minus 1) (pos 0) ∷ []) is (minus 1 ∷ [])
    ∷ []
