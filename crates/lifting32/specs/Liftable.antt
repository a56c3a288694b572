-- The code's own forms: lines of a plane that can be lifted in 32 bits, by taps, by one tap and by pairs of taps, and what becomes of them. No
-- definition of the format rests on them.
use Rattle.std.specs.Prelude.{◌≡◌, ◌≢◌, Bool, true, List, ℕ, ◌+◌, ◌^◌, ◌≤◌, ◌<◌, ℤ, pos, nat_abs, ◌+ℤ◌, ◌*ℤ◌, length, get_or}
use Rattle.base.specs.Range.{fits32}
use Rattle.lines.specs.Buffers.{Symmetric}
use Rattle.lines.specs.Sums.{sizes_below, tap_at, sum_at, new_at, line_lifted}
use Rattle.lifting32.specs.Pairs.{pair_tap, pair_sum, FourPairsFit}
use Rattle.lifting32.specs.declared.LineStep.{LineStep}
use Rattle.lifting32.specs.declared.PairedLine.{PairedLine}

-- A line and the new numbers that its sums make: it is inside its plane, and they fit 32 bits.
pub record NewNumbersFit (plane : List ℤ) (line : LineStep) (adds : Bool) (sums : ℕ → ℤ) : Type 0 where
  pub inside : line.start + line.width ≤ length plane
  pub scaled : line.scale < 32
  pub new_fit : (x : ℕ) → x < line.width → fits32 (new_at adds line.scale plane line.start sums x) ≡ true

-- A line that is read, from a start in the same plane: it is inside the plane, and apart from the line that is lifted.
pub record ReadsFrom (plane : List ℤ) (line : LineStep) (start : ℕ) : Type 0 where
  pub inside : start + line.width ≤ length plane
  pub apart : (x k : ℕ) → x < line.width → k < line.width → start + x ≢ line.start + k

-- By taps: there is one, or they are the same from both ends. Sums stay within 32 bits whatever the signs are; where `narrow` is true, the numbers that
-- are read are below 2^14 in size.
pub record Liftable (plane : List ℤ) (line : LineStep) (taps : List ℤ) (starts : List ℕ) (count : ℕ) (adds narrow : Bool) : Type 0 where
  pub some_taps : 1 ≤ count
  pub few_taps : count ≤ 8
  pub symmetric : Symmetric taps count
  pub real_taps : (t : ℕ) → t < count → 1 ≤ nat_abs (get_or taps t (pos 0))
  pub small_taps : (t : ℕ) → t < count → nat_abs (get_or taps t (pos 0)) < 2 ^ 31
  pub reads : (t : ℕ) → t < count → ReadsFrom plane line (get_or starts t 0)
  pub narrowed : narrow ≡ true → (t x : ℕ) → t < count → x < line.width → nat_abs (get_or plane (get_or starts t 0 + x) (pos 0)) < 2 ^ 14
  pub room : (x : ℕ) → x < line.width → nat_abs line.round + sizes_below (tap_at taps starts plane x) count < 2 ^ 31
  pub line_fits : NewNumbersFit plane line adds (sum_at line.round taps starts count plane)

abbrev pub lifted_by_taps : List ℤ → LineStep → List ℤ → List ℕ → ℕ → Bool → List ℤ
lifted_by_taps plane line taps starts count adds =
    line_lifted adds line.scale plane line.start line.width (sum_at line.round taps starts count plane)

-- By one tap, which reads from a start of its own.
unfoldable pub one_sum : List ℤ → LineStep → ℕ → ℤ → ℕ → ℤ
one_sum plane line source tap x = line.round +ℤ tap *ℤ get_or plane (source + x) (pos 0)

pub record LiftableByOne (plane : List ℤ) (line : LineStep) (source : ℕ) (tap : ℤ) (adds : Bool) : Type 0 where
  pub reads : ReadsFrom plane line source
  pub room : (x : ℕ) → x < line.width → nat_abs line.round + nat_abs (tap *ℤ get_or plane (source + x) (pos 0)) < 2 ^ 31
  pub line_fits : NewNumbersFit plane line adds (one_sum plane line source tap)

unfoldable pub lifted_by_one : List ℤ → LineStep → ℕ → ℤ → Bool → List ℤ
lifted_by_one plane line source tap adds = line_lifted adds line.scale plane line.start line.width (one_sum plane line source tap)

-- By four pairs of taps.
pub record LiftableByPairs (plane : List ℤ) (p : PairedLine) (t0 t1 t2 t3 : ℤ) (adds narrow : Bool) : Type 0 where
  pub reads : (j : ℕ) → j < 8 → ReadsFrom plane p.line (get_or p.indices j 0)
  pub pairs_fit : (x : ℕ) → x < p.line.width → FourPairsFit plane p x t0 t1 t2 t3 narrow
  pub line_fits : NewNumbersFit plane p.line adds (pair_sum plane p t0 t1 t2 t3)

unfoldable pub lifted_by_pairs : List ℤ → PairedLine → ℤ → ℤ → ℤ → ℤ → Bool → List ℤ
lifted_by_pairs plane p t0 t1 t2 t3 adds =
    line_lifted adds p.line.scale plane p.line.start p.line.width (pair_sum plane p t0 t1 t2 t3)

-- By the pairs of 2 * half taps.
abbrev pub LiftableByPairsOf : List ℤ → PairedLine → List ℤ → ℕ → Bool → Bool → Type 0
LiftableByPairsOf plane p taps half adds narrow =
    LiftableByPairs plane p (pair_tap taps half 0) (pair_tap taps half 1) (pair_tap taps half 2) (pair_tap taps half 3) adds narrow

abbrev pub lifted_by_pairs_of : List ℤ → PairedLine → List ℤ → ℕ → Bool → List ℤ
lifted_by_pairs_of plane p taps half adds = lifted_by_pairs plane p (pair_tap taps half 0) (pair_tap taps half 1) (pair_tap taps half 2) (pair_tap taps half 3) adds
