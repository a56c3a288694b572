-- The growth law: how large a step's sums and its new numbers are, from the sizes of the numbers that it reads and changes. And that a pass of
-- each of the seven filters over small numbers never leaves 32 bits.
-- Assumes nothing.
use mathlib.Core.Path.{◌≡◌, refl, ap, ◌∙◌}
use mathlib.Core.Bool.{Bool, true, false, cond, ◌&&◌, not}
use mathlib.Core.List.{List, [], ◌∷◌, map}
use Prim.Native.Nat.{ℕ, zero, suc, ◌+◌, ◌*◌, ◌/◌, ◌^◌, ◌≤◌, ◌<◌}
use native.Mathlib.Nat.{le_refl, le_trans, le-div_iff_mul-le, mul-le-mul_left}
use native.Mathlib.Omega.{arith}
use lib.Dec.{ltb}
use lib.IntN.{ℤ, pos, negsuc, nat_abs, ◌+ℤ◌, ◌*ℤ◌}
use lib.ListN.{length, get_or, take}
use lib.Pow.{pow_pos}
use borrow.Author.Tests.{ltb-true, lt-ltb, le-ltb}
use Rattle.base.specs.Every.{all_below}
use Rattle.base.specs.Floor.{floor_div}
use Rattle.base.specs.Range.{fits32}
use Rattle.base.proofs.EveryLaws.{all-at}
use Rattle.base.proofs.Booleans.{and_left, and_right, and-true}
use Rattle.base.proofs.Integers.{mag-size, size-mag, size-add, size-sub}
use Rattle.base.proofs.RangeLaws.{below-fits32, fits32-below}
use Rattle.lines.specs.Buffers.{Within}
use Rattle.lines.specs.Sums.{sum_below, sizes_below, tap_at, changed}
use Rattle.lines.proofs.SumsLaws.{sizes-front, sizes-product, sum-sizes}
use Rattle.filters.specs.Lifting.{Step, changes_even, adds, rounding}
use Rattle.filters.specs.Filters.{filter_of, deslauriers_dubuc97, le_gall53, deslauriers_dubuc137, haar_steps, haar, haar_with_shift, fidelity, daubechies97}
use Rattle.filters.specs.Bounds.{sum_most, new_most, stays_small, target_after, bound_of, source_bound, target_bound, bounds_after}
use Rattle.filters.specs.Table.{step_of, sizes_of, gain_of, WellFormedStep}
use Rattle.filters.specs.declared.filter.LiftingStep.{LiftingStep}
use Rattle.filters.specs.declared.bounds.Bounds.{Bounds}
use Rattle.filters.proofs.LiftingLaws.{rounding-most}
use Rattle.filters.proofs.TableLaws.{type-says}
use Rattle.base.proofs.Parity.{each-parity}

-- a quotient of a number that is no larger, and the size of a quotient rounded down
quotient-most : (a b d : ℕ) → 1 ≤ d → a ≤ b → a / d ≤ b / d
quotient-most a b d some h = (le-div_iff_mul-le some).1 (le_trans ((le-div_iff_mul-le some).0 (le_refl (a / d))) h)

size-quotient : (z : ℤ) (d m : ℕ) → 1 ≤ d → nat_abs z ≤ m → nat_abs (floor_div z d) ≤ m / d + 1
size-quotient (pos a) d m some h = omega (arith, quotient-most a m d some h)
size-quotient (negsuc a) d m some h = omega (arith, quotient-most a m d some (omega arith))

-- a number with a quotient of a sum added or subtracted
size-changed : (adds : Bool) (scale : ℕ) (old sum : ℤ) (m n : ℕ) → nat_abs old ≤ n → nat_abs sum ≤ m → nat_abs (changed adds scale old sum) ≤ n + m / 2 ^ scale + 1
unfolding changed
size-changed true scale old sum m n ho hs =
    omega (arith, size-add old (floor_div sum (2 ^ scale)), size-quotient sum (2 ^ scale) m (pow_pos scale) hs)
size-changed false scale old sum m n ho hs =
    omega (arith, size-sub old (floor_div sum (2 ^ scale)), size-quotient sum (2 ^ scale) m (pow_pos scale) hs)

-- the sizes of the first n numbers of a list
list-sizes : (l : List ℤ) (n : ℕ) → sizes_below (λ t. get_or l t (pos 0)) n ≡ sizes_of (take n l)
unfolding sizes_below sizes_of
list-sizes l zero = refl
list-sizes [] (suc n) = omega (arith, list-sizes [] n ∙ none n)
  where
    none : (n : ℕ) → sizes_of (take n []) ≡ 0
    none zero = refl
    none (suc n) = refl
list-sizes (t ∷ ts) (suc n) = sizes-front (λ i. get_or (t ∷ ts) i (pos 0)) n ∙ ap (λ (m : ℕ). nat_abs t + m) (list-sizes ts n)

-- a size that is covered by both of two bounds
least-chosen : (first : Bool) (a b n : ℕ) → n ≤ a → n ≤ b → n ≤ cond first a b
least-chosen true a b n ha hb = ha
least-chosen false a b n ha hb = hb

-- A step's sum, with its rounding, where its taps read the numbers v.
abbrev pub step_sum : LiftingStep → (ℕ → ℤ) → ℤ
step_sum r v = rounding r.scale +ℤ sum_below (λ t. get_or r.taps t (pos 0) *ℤ v t) r.count

-- A step whose sums are made of numbers that are at most m in size.
module _ (r : LiftingStep) (formed : WellFormedStep r) (m : ℕ) where
  -- the taps' products together are no larger than the gain says
  products-size : (v : ℕ → ℤ) → ((t : ℕ) → t < r.count → nat_abs (v t) ≤ m) → sizes_below (λ t. get_or r.taps t (pos 0) *ℤ v t) r.count ≤ r.gain * m
  unfolding step_of gain_of
  products-size v read =
      rw (formed.gain_exact, ← list-sizes r.taps r.count) (sizes-product (λ t. get_or r.taps t (pos 0)) v m r.count read)

  -- where the step stays small, that is within 32 bits, the rounding included
  pub products-room :
      (target : ℕ) (v : ℕ → ℤ) → stays_small r m target ≡ true → ((t : ℕ) → t < r.count → nat_abs (v t) ≤ m)
      → nat_abs (rounding r.scale) + sizes_below (λ t. get_or r.taps t (pos 0) *ℤ v t) r.count < 2 ^ 31
  unfolding stays_small sum_most
  products-room target v small read =
      omega (arith, products-size v read, rounding-most r.scale formed.small_scale, ltb-true (r.gain * m + 2 ^ 11) (2 ^ 31) (and_left _ _ small))

  module _ (v : ℕ → ℤ) (read : (t : ℕ) → t < r.count → nat_abs (v t) ≤ m) where
    -- the sum
    pub sum-size : nat_abs (step_sum r v) ≤ sum_most r m
    unfolding sum_most
    sum-size =
        let taps : ℕ → ℤ = λ t. get_or r.taps t (pos 0) *ℤ v t in
        omega (arith, size-add (rounding r.scale) (sum_below taps r.count), sum-sizes taps r.count, products-size v read, rounding-most r.scale formed.small_scale)

    -- the new number
    pub new-size :
        (old : ℤ) (target : ℕ) → nat_abs old ≤ target
        → nat_abs (changed r.adds r.scale old (step_sum r v)) ≤ new_most r m target
    unfolding new_most
    new-size old target h = size-changed r.adds r.scale old _ (sum_most r m) target h sum-size

    -- which fits 32 bits where the step stays small
    pub new-fits :
        (old : ℤ) (target : ℕ) → nat_abs old ≤ target → stays_small r m target ≡ true
        → fits32 (changed r.adds r.scale old (step_sum r v)) ≡ true
    unfolding stays_small
    new-fits old target h small =
        let new = changed r.adds r.scale old (step_sum r v) in
        below-fits32 new
        (omega (arith, mag-size new, new-size old target h, ltb-true (new_most r m target) (2 ^ 31) (and_right (ltb (sum_most r m) (2 ^ 31)) _ small)))

    -- and where it fits, it keeps to the size after the step
    pub after-size :
        (old : ℤ) (target : ℕ) → nat_abs old ≤ target → fits32 (changed r.adds r.scale old (step_sum r v)) ≡ true
        → nat_abs (changed r.adds r.scale old (step_sum r v)) ≤ target_after r m target
    unfolding target_after
    after-size old target h fits =
        let new = changed r.adds r.scale old (step_sum r v) in
        least-chosen (stays_small r m target) (new_most r m target) (2 ^ 31) (nat_abs new) (new-size old target h)
        (omega (arith, size-mag new, fits32-below new fits))

-- A step over a line of sums, each from its own starts in a source, whose numbers are at most m in size; the step stays small.
module _
    (r : LiftingStep) (formed : WellFormedStep r) (source : List ℤ) (starts : List ℕ) (width m target : ℕ)
    (reads : (t : ℕ) → t < r.count → Within source (get_or starts t 0) width m)
    (small : stays_small r m target ≡ true) (round : ℤ) (rounded : round ≡ rounding r.scale)
  where
    -- the products leave room for each other
    pub products-fit : (x : ℕ) → x < width → nat_abs round + sizes_below (tap_at r.taps starts source x) r.count < 2 ^ 31
    unfolding tap_at
    products-fit x below =
        rw rounded (products-room r formed m target (λ t. get_or source (get_or starts t 0 + x) (pos 0)) small (λ t inside. reads t inside x below))

    -- the new numbers fit 32 bits
    pub line_fits :
        (line : List ℤ) (start : ℕ) → Within line start width target
        → (x : ℕ) → x < width → fits32 (changed r.adds r.scale (get_or line (start + x) (pos 0)) (round +ℤ sum_below (tap_at r.taps starts source x) r.count)) ≡ true
    unfolding tap_at
    line_fits line start old x below =
        rw rounded
        (new-fits r formed m (λ t. get_or source (get_or starts t 0 + x) (pos 0)) (λ t inside. reads t inside x below) (get_or line (start + x) (pos 0)) target (old x below) small)

-- a size chosen of two that a bound covers
most-chosen : (first : Bool) (a b n : ℕ) → (first ≡ true → a ≤ n) → b ≤ n → cond first a b ≤ n
most-chosen true a b n ha hb = ha refl
most-chosen false a b n ha hb = hb

-- a new size is no larger than 2^31
pub after-most : (r : LiftingStep) (source target : ℕ) → target_after r source target ≤ 2 ^ 31
unfolding target_after stays_small
after-most r source target =
    most-chosen (stays_small r source target) (new_most r source target) (2 ^ 31) (2 ^ 31)
    (λ small. omega (arith, ltb-true (new_most r source target) (2 ^ 31) (and_right (ltb (sum_most r source) (2 ^ 31)) _ small)))
    (le_refl (2 ^ 31))

-- where it is smaller, the step stays small
chosen-below : (first : Bool) (a b : ℕ) → (first ≡ true → a < b) → ltb (cond first a b) b ≡ first
chosen-below true a b h = lt-ltb a b (h refl)
chosen-below false a b h = le-ltb b b (le_refl b)

pub after-below : (r : LiftingStep) (source target : ℕ) → ltb (target_after r source target) (2 ^ 31) ≡ stays_small r source target
unfolding target_after stays_small
after-below r source target =
    chosen-below (stays_small r source target) (new_most r source target) (2 ^ 31)
    (λ small. ltb-true (new_most r source target) (2 ^ 31) (and_right (ltb (sum_most r source) (2 ^ 31)) _ small))

-- the bounds after a step that changes the even elements, and after one that changes the odd ones
abbrev pub bounds_pair : ℕ → ℕ → Bounds
bounds_pair even odd = record { even = even; odd = odd }

pub after-even : (r : LiftingStep) (bounds : Bounds) → r.even ≡ true → bounds_after r bounds ≡ bounds_pair (target_after r bounds.odd bounds.even) bounds.odd
unfolding bounds_after
after-even r bounds e =
    ap (λ (even : Bool). cond even (bounds_pair (target_after r bounds.odd bounds.even) bounds.odd) (bounds_pair bounds.even (target_after r bounds.even bounds.odd))) e

pub after-odd : (r : LiftingStep) (bounds : Bounds) → r.even ≡ false → bounds_after r bounds ≡ bounds_pair bounds.even (target_after r bounds.even bounds.odd)
unfolding bounds_after
after-odd r bounds e =
    ap (λ (even : Bool). cond even (bounds_pair (target_after r bounds.odd bounds.even) bounds.odd) (bounds_pair bounds.even (target_after r bounds.even bounds.odd))) e

-- of the elements that the step changes they are renewed, of those that it reads they are as they were
pub target-bound-after : (r : LiftingStep) (bounds : Bounds) → target_bound r (bounds_after r bounds) ≡ target_after r (source_bound r bounds) (target_bound r bounds)
unfolding bound_of
target-bound-after r bounds = by r.even refl
  where
    by : (even : Bool) → r.even ≡ even → target_bound r (bounds_after r bounds) ≡ target_after r (source_bound r bounds) (target_bound r bounds)
    by true e = rw (after-even r bounds e, e)
    by false e = rw (after-odd r bounds e, e)

pub source-bound-after : (r : LiftingStep) (bounds : Bounds) → source_bound r (bounds_after r bounds) ≡ source_bound r bounds
unfolding bound_of
source-bound-after r bounds = by r.even refl
  where
    by : (even : Bool) → r.even ≡ even → source_bound r (bounds_after r bounds) ≡ source_bound r bounds
    by true e = rw (after-even r bounds e, e)
    by false e = rw (after-odd r bounds e, e)

-- so bounds keep to what the code can tell
pub bounds-most : (r : LiftingStep) (bounds : Bounds) → bounds.even ≤ 2 ^ 32 → bounds.odd ≤ 2 ^ 32 → ((bounds_after r bounds).even ≤ 2 ^ 32) × ((bounds_after r bounds).odd ≤ 2 ^ 32)
bounds-most r bounds even odd = by r.even refl
  where
    by : (e : Bool) → r.even ≡ e → ((bounds_after r bounds).even ≤ 2 ^ 32) × ((bounds_after r bounds).odd ≤ 2 ^ 32)
    by true e = rw (after-even r bounds e) (omega (arith, after-most r bounds.odd bounds.even), odd)
    by false e = rw (after-odd r bounds e) (even, omega (arith, after-most r bounds.even bounds.odd))

-- Larger numbers have larger bounds after a step.
module _ (r : LiftingStep) (s s' t t' : ℕ) (hs : s ≤ s') (ht : t ≤ t') where
  sum-grows : sum_most r s ≤ sum_most r s'
  unfolding sum_most
  sum-grows = omega (arith, mul-le-mul_left r.gain hs)

  new-grows : new_most r s t ≤ new_most r s' t'
  unfolding new_most
  new-grows = omega (arith, quotient-most (sum_most r s) (sum_most r s') (2 ^ r.scale) (pow_pos r.scale) sum-grows)

  small-before : stays_small r s' t' ≡ true → stays_small r s t ≡ true
  unfolding stays_small
  small-before small =
      and-true _ _
      (lt-ltb (sum_most r s) (2 ^ 31) (omega (arith, sum-grows, ltb-true (sum_most r s') (2 ^ 31) (and_left _ _ small))))
      (lt-ltb (new_most r s t) (2 ^ 31) (omega (arith, new-grows, ltb-true (new_most r s' t') (2 ^ 31) (and_right (ltb (sum_most r s') (2 ^ 31)) _ small))))

  target-grows : target_after r s t ≤ target_after r s' t'
  unfolding target_after
  target-grows = by (stays_small r s' t') refl
    where
      by : (small : Bool) → stays_small r s' t' ≡ small → cond (stays_small r s t) (new_most r s t) (2 ^ 31) ≤ cond (stays_small r s' t') (new_most r s' t') (2 ^ 31)
      by true e = rw (e, small-before e) new-grows
      by false e = rw e (after-most r s t)

-- the bounds after a step
pub step-grows :
    (r : LiftingStep) (bounds bounds' : Bounds) → ((even : Bool) → bound_of bounds even ≤ bound_of bounds' even)
    → (even : Bool) → bound_of (bounds_after r bounds) even ≤ bound_of (bounds_after r bounds') even
step-grows r bounds bounds' h even =
    each-parity r.even (λ e. bound_of (bounds_after r bounds) e ≤ bound_of (bounds_after r bounds') e)
    (rw (target-bound-after r bounds, target-bound-after r bounds') (target-grows r _ _ _ _ (h (not r.even)) (h r.even)))
    (rw (source-bound-after r bounds, source-bound-after r bounds') (h (not r.even)))
    even

-- Whether a step stays small from bounds on, and whether all steps of a pass do.
abbrev stays_from : LiftingStep → Bounds → Bool
stays_from r bounds = stays_small r (source_bound r bounds) (target_bound r bounds)

unfoldable pub pass_small : List LiftingStep → Bounds → Bool
pass_small [] bounds = true
pass_small (r ∷ rs) bounds = stays_from r bounds && pass_small rs (bounds_after r bounds)

-- Rows of the table that keep to their bounds.
unfoldable pub AllWellFormed : List LiftingStep → Type 0
AllWellFormed [] = Unit {0}
AllWellFormed (r ∷ rs) = WellFormedStep r × AllWellFormed rs

-- A row of which the sizes alone are a step's.
abbrev size_row : Step → LiftingStep
size_row s =
    record {
      even = changes_even s.type;
      adds = adds s.type;
      lead = 0;
      taps = s.taps;
      count = length s.taps;
      scale = s.scale;
      gain = gain_of s;
    }

-- a step of the table goes as far as document 01's
size_same :
    (r : LiftingStep) (bounds : Bounds) → WellFormedStep r
    → (stays_from r bounds ≡ stays_from (size_row (step_of r)) bounds) × (bounds_after r bounds ≡ bounds_after (size_row (step_of r)) bounds)
unfolding step_of sum_most new_most stays_small target_after bounds_after
size_same r bounds formed =
    let even = (type-says r.even r.adds).0 in
    (rw (even, ← formed.gain_exact), rw (even, ← formed.gain_exact))

pass_same : (rs : List LiftingStep) (bounds : Bounds) → AllWellFormed rs → pass_small rs bounds ≡ pass_small (map size_row (map step_of rs)) bounds
unfolding pass_small AllWellFormed
pass_same [] bounds formed = refl
pass_same (r ∷ rs) bounds formed =
    let same = size_same r bounds formed.0 in
    rw (same.0, same.1) (ap (λ (b : Bool). stays_from (size_row (step_of r)) bounds && b) (pass_same rs (bounds_after (size_row (step_of r)) bounds) formed.1))

-- The growth law of the table: a pass of any of the seven filters over numbers of at most 2^16 + 1 stays small at every step.
pub pass-small :
    (wavelet : ℕ) (rs : List LiftingStep) → wavelet ≤ 6 → AllWellFormed rs → map step_of rs ≡ (filter_of wavelet).steps
    → pass_small rs (bounds_pair (2 ^ 16 + 1) (2 ^ 16 + 1)) ≡ true
unfolding all_below filter_of deslauriers_dubuc97 le_gall53 deslauriers_dubuc137 haar_steps haar haar_with_shift fidelity daubechies97 changes_even adds sizes_of gain_of sum_most new_most stays_small target_after bound_of bounds_after pass_small
pass-small wavelet rs h formed same =
    pass_same rs _ formed
    ∙ rw same (all-at (λ w. pass_small (map size_row (filter_of w).steps) (bounds_pair (2 ^ 16 + 1) (2 ^ 16 + 1))) 7 wavelet refl (omega arith))
