-- The code's own forms: pairs of equal taps, what they read, their sums, and the sizes that keep these within 32 bits. No definition of the
-- format rests on them.
use Rattle.std.specs.Prelude.{◌≡◌, Bool, true, cond, List, ℕ, ◌+◌, ◌-◌, ◌^◌, ◌≤◌, ◌<◌, ltb, ℤ, pos, nat_abs, ◌+ℤ◌, ◌*ℤ◌, length, get_or}
use Rattle.lifting32.specs.declared.LineStep.{LineStep}
use Rattle.lifting32.specs.declared.PairedLine.{PairedLine}

-- The pairs of 2 * half taps that are the same from both ends, counted from the middle: pair j's tap, 0 where there is no such pair; and entry j of
-- the indices that they read from: the earlier taps' first, then the later ones', those of the middle pair where there is no such pair.
unfoldable pub pair_tap : List ℤ → ℕ → ℕ → ℤ
pair_tap taps half j = cond (ltb j half) (get_or taps (half - 1 - j) (pos 0)) (pos 0)

unfoldable pub pair_or_middle : ℕ → ℕ → ℕ
pair_or_middle half j = cond (ltb j half) j 0

unfoldable pub pair_index : List ℕ → ℕ → ℕ → ℕ
pair_index starts half j =
    cond (ltb j 4) (get_or starts (half - 1 - pair_or_middle half j) 0) (get_or starts (half + pair_or_middle half (j - 4)) 0)

-- There are four pairs at most, and their taps fit 32 bits.
pub record PairTapsFit (taps : List ℤ) (half : ℕ) : Type 0 where
  pub few : half ≤ 4
  pub small : (t : ℕ) → t < half → nat_abs (get_or taps t (pos 0)) < 2 ^ 31

-- A line with the indices that its pairs read from.
pub record PairedFrom (line : LineStep) (starts : List ℕ) (half : ℕ) (p : PairedLine) : Type 0 where
  pub same_line : p.line ≡ line
  pub each : (j : ℕ) → j < 8 → get_or p.indices j 0 ≡ pair_index starts half j

-- What a pair reads: the numbers at two indices of a plane, added. And what pair j of a line reads at its entry x.
abbrev pub pair_of : List ℤ → ℕ → ℕ → ℤ
pair_of plane a b = get_or plane a (pos 0) +ℤ get_or plane b (pos 0)

abbrev pub pair_at : List ℤ → PairedLine → ℕ → ℕ → ℤ
pair_at plane p x j = pair_of plane (get_or p.indices j 0 + x) (get_or p.indices (4 + j) 0 + x)

-- The sum at entry x, the middle pair first.
unfoldable pub pair_sum : List ℤ → PairedLine → ℤ → ℤ → ℤ → ℤ → ℕ → ℤ
pair_sum plane p t0 t1 t2 t3 x =
    (((p.line.round +ℤ t0 *ℤ pair_at plane p x 0) +ℤ t1 *ℤ pair_at plane p x 1) +ℤ t2 *ℤ pair_at plane p x 2) +ℤ t3 *ℤ pair_at plane p x 3

-- A product, and a sum with it, are within 32 bits; where numbers are narrow, the one that is multiplied is within 16 bits.
pub record ProductFits (narrow : Bool) (sum tap v : ℤ) : Type 0 where
  pub narrowed : narrow ≡ true → nat_abs v < 2 ^ 15
  pub room : nat_abs sum + nat_abs (tap *ℤ v) < 2 ^ 31

-- So it is of what a pair reads, which is within 32 bits too, inside the plane.
pub record OnePairFits (narrow : Bool) (sum tap : ℤ) (plane : List ℤ) (a b : ℕ) : Type 0 where
  pub inside : (a < length plane) × (b < length plane)
  pub small : nat_abs (pair_of plane a b) < 2 ^ 31
  pub product : ProductFits narrow sum tap (pair_of plane a b)

-- So it is of what pair j of a line reads at its entry x.
abbrev pub PairFits : Bool → ℤ → ℤ → List ℤ → PairedLine → ℕ → ℕ → Type 0
PairFits narrow sum tap plane p x j = (j < 4) × OnePairFits narrow sum tap plane (get_or p.indices j 0 + x) (get_or p.indices (4 + j) 0 + x)

-- So it is of all four pairs at entry x, one after the other.
pub record FourPairsFit (plane : List ℤ) (p : PairedLine) (x : ℕ) (t0 t1 t2 t3 : ℤ) (narrow : Bool) : Type 0 where
  pub inside : (j : ℕ) → j < 8 → get_or p.indices j 0 + x < length plane
  pub small : (j : ℕ) → j < 4 → nat_abs (pair_at plane p x j) < 2 ^ 31
  pub narrowed : narrow ≡ true → (j : ℕ) → j < 4 → nat_abs (pair_at plane p x j) < 2 ^ 15
  pub room :
      nat_abs p.line.round
      + (nat_abs (t0 *ℤ pair_at plane p x 0) + nat_abs (t1 *ℤ pair_at plane p x 1) + nat_abs (t2 *ℤ pair_at plane p x 2) + nat_abs (t3 *ℤ pair_at plane p x 3))
      < 2 ^ 31
