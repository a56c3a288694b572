-- Laws of pairs of taps: where each reads from, that their sum is the sum of the taps and no larger than the sizes of these, and that each product has
-- room beside the sum before it.
-- Assumes nothing.
use mathlib.Core.Path.{◌≡◌, refl, sym, ap, ◌∙◌}
use mathlib.Core.Bool.{Bool}
use mathlib.Core.List.{List}
use Prim.Native.Nat.{ℕ, ◌+◌, ◌-◌, ◌*◌, ◌^◌, ◌≤◌, ◌<◌, min}
use native.Mathlib.Decide.{dec_lt}
use native.Mathlib.Omega.{arith}
use lib.IntN.{ℤ, pos, nat_abs, ◌+ℤ◌, ◌*ℤ◌, zero-*ℤ}
use lib.ListN.{length, get_or}
use borrow.Author.Tests.{lt-ltb, le-ltb}
use Rattle.base.proofs.Integers.{size-add}
use Rattle.lines.specs.Sums.{sum_below, sizes_below}
use Rattle.lines.proofs.SumsLaws.{zero-added, pair_size, around, around-none, around-all, pair-added, sizes_around, sizes-around-more, sizes-around-all}
use Rattle.lifting32.specs.Pairs.{pair_tap, pair_or_middle, pair_index, pair_at, pair_sum, PairFits, FourPairsFit}
use Rattle.lifting32.specs.declared.PairedLine.{PairedLine}

-- a pair that there is, one that there is not, and either
pub middle-in : (half j : ℕ) → j < half → pair_or_middle half j ≡ j
unfolding pair_or_middle
middle-in half j h = rw (lt-ltb j half h) refl

pub middle-out : (half j : ℕ) → half ≤ j → pair_or_middle half j ≡ 0
unfolding pair_or_middle
middle-out half j h = rw (le-ltb j half h) refl

pub middle-below : (half j : ℕ) → 1 ≤ half → pair_or_middle half j < half
middle-below half j some =
    elim (dec_lt j half) [
      | yes inside ↦ rw (middle-in half j inside) inside
      | no past ↦ rw (middle-out half j (omega arith)) some
    ]

-- the tap of a pair that there is, and of one that there is not
pub tap-in : (taps : List ℤ) (half j : ℕ) → j < half → pair_tap taps half j ≡ get_or taps (half - 1 - j) (pos 0)
unfolding pair_tap
tap-in taps half j h = rw (lt-ltb j half h) refl

pub tap-out : (taps : List ℤ) (half j : ℕ) → half ≤ j → pair_tap taps half j ≡ pos 0
unfolding pair_tap
tap-out taps half j h = rw (le-ltb j half h) refl

-- where the taps of a pair read from; and what holds of the start of every tap holds of the index of every pair
module _ (starts : List ℕ) (half : ℕ) where
  pub index-first : (j : ℕ) → j < 4 → pair_index starts half j ≡ get_or starts (half - 1 - pair_or_middle half j) 0
  unfolding pair_index
  index-first j h = rw (lt-ltb j 4 h) refl

  pub index-second : (j : ℕ) → pair_index starts half (4 + j) ≡ get_or starts (half + pair_or_middle half j) 0
  unfolding pair_index
  index-second j =
      let pair : 4 + j - 4 ≡ j = omega arith in
      rw (le-ltb (4 + j) 4 (omega arith), pair) refl

  pub index-any : (Q : ℕ → Type 0) → 1 ≤ half → ((t : ℕ) → t < 2 * half → Q (get_or starts t 0)) → (j : ℕ) → Q (pair_index starts half j)
  unfolding pair_index
  index-any Q some all j =
      elim (dec_lt j 4) [
        | yes first ↦ rw (lt-ltb j 4 first) (all _ (omega (arith, middle-below half j some)))
        | no second ↦ rw (le-ltb j 4 (omega arith)) (all _ (omega (arith, middle-below half (j - 4) some)))
      ]

-- Taps f in pairs around the middle of 2 * half: pair j has the factor T j and the numbers A j and B j, and past the last pair the factor is 0.
module _
    (f : ℕ → ℤ) (half : ℕ) (T A B : ℕ → ℤ)
    (low : (j : ℕ) → j < half → f (half - 1 - j) ≡ T j *ℤ A j)
    (high : (j : ℕ) → j < half → f (half + j) ≡ T j *ℤ B j)
    (none : (j : ℕ) → half ≤ j → T j ≡ pos 0)
  where
    pair-next : (r s : ℤ) (j : ℕ) → s ≡ r +ℤ around f half (min j half) → s +ℤ T j *ℤ (A j +ℤ B j) ≡ r +ℤ around f half (min (j + 1) half)
    pair-next r s j so =
        elim (dec_lt j half) [
          | yes inside ↦
              let now : min j half ≡ j = omega arith in
              let next : min (j + 1) half ≡ j + 1 = omega arith in
              rw next (pair-added f half j inside r s (T j) (A j) (B j) (rw now at so) (low j inside) (high j inside))
          | no past ↦
              let now : min j half ≡ min (j + 1) half = omega arith in
              rw (none j (omega arith)) (sym (zero-added s (A j +ℤ B j)) ∙ rw now at so)
        ]

    pub pairs-summed :
        (r : ℤ) → half ≤ 4
        → (((r +ℤ T 0 *ℤ (A 0 +ℤ B 0)) +ℤ T 1 *ℤ (A 1 +ℤ B 1)) +ℤ T 2 *ℤ (A 2 +ℤ B 2)) +ℤ T 3 *ℤ (A 3 +ℤ B 3) ≡ r +ℤ sum_below f (2 * half)
    pairs-summed r few =
        let first : min 0 half ≡ 0 = omega arith in
        let start : r ≡ r +ℤ around f half (min 0 half) = rw first (around-none f half r) in
        let all : min 4 half ≡ half = omega arith in
        pair-next r _ 3 (pair-next r _ 2 (pair-next r _ 1 (pair-next r r 0 start)))
        ∙ rw all (ap (λ (t : ℤ). r +ℤ t) (around-all f half))

    size-next : (s j : ℕ) → s ≤ sizes_around f half (min j half) → s + nat_abs (T j *ℤ (A j +ℤ B j)) ≤ sizes_around f half (min (j + 1) half)
    size-next s j so =
        elim (dec_lt j half) [
          | yes inside ↦
              let now : min j half ≡ j = omega arith in
              let next : min (j + 1) half ≡ j + 1 = omega arith in
              let before : s ≤ sizes_around f half j = rw now at so in
              let more = rw (low j inside, high j inside) at (sizes-around-more f half j inside) in
              rw next (omega (arith, before, more, pair_size (T j) (A j) (B j)))
          | no past ↦
              let now : min j half ≡ min (j + 1) half = omega arith in
              let same : s ≤ sizes_around f half (min (j + 1) half) = rw now at so in
              rw (none j (omega arith), zero-*ℤ (A j +ℤ B j)) (omega (arith, same))
        ]

    pub pairs-sized :
        half ≤ 4
        → nat_abs (T 0 *ℤ (A 0 +ℤ B 0)) + nat_abs (T 1 *ℤ (A 1 +ℤ B 1)) + nat_abs (T 2 *ℤ (A 2 +ℤ B 2)) + nat_abs (T 3 *ℤ (A 3 +ℤ B 3)) ≤ sizes_below f (2 * half)
    pairs-sized few =
        let all : min 4 half ≡ half = omega arith in
        let sizes = rw (all, sizes-around-all f half) at (size-next _ 3 (size-next _ 2 (size-next _ 1 (size-next 0 0 (omega arith))))) in
        omega (arith, sizes)

-- What four pairs at entry x ask of each in turn, beside the sum of those before it.
module _ {plane : List ℤ} {p : PairedLine} {x : ℕ} {t0 t1 t2 t3 : ℤ} {narrow : Bool} (fit : FourPairsFit plane p x t0 t1 t2 t3 narrow) where
  abbrev gives : ℤ → ℕ → ℤ
  gives tap j = tap *ℤ pair_at plane p x j

  beside : (sum tap : ℤ) (j : ℕ) → j < 4 → nat_abs sum + nat_abs (gives tap j) < 2 ^ 31 → PairFits narrow sum tap plane p x j
  beside sum tap j h room = (
    h,
    record {
      inside = (fit.inside j (omega arith), fit.inside (4 + j) (omega arith));
      small = fit.small j h;
      product = record { narrowed = λ e. fit.narrowed e j h; room = room };
    },
  )

  pub first_fits : PairFits narrow p.line.round t0 plane p x 0
  first_fits = beside p.line.round t0 0 (omega arith) (omega (arith, fit.room))

  pub second_fits : PairFits narrow (p.line.round +ℤ gives t0 0) t1 plane p x 1
  second_fits = beside _ t1 1 (omega arith) (omega (arith, fit.room, size-add p.line.round (gives t0 0)))

  pub third-fits : PairFits narrow ((p.line.round +ℤ gives t0 0) +ℤ gives t1 1) t2 plane p x 2
  third-fits =
      beside _ t2 2 (omega arith)
      (omega (arith, fit.room, size-add p.line.round (gives t0 0), size-add (p.line.round +ℤ gives t0 0) (gives t1 1)))

  pub fourth-fits : PairFits narrow (((p.line.round +ℤ gives t0 0) +ℤ gives t1 1) +ℤ gives t2 2) t3 plane p x 3
  fourth-fits =
      beside _ t3 3 (omega arith)
      (omega (
        arith,
        fit.room,
        size-add p.line.round (gives t0 0),
        size-add (p.line.round +ℤ gives t0 0) (gives t1 1),
        size-add ((p.line.round +ℤ gives t0 0) +ℤ gives t1 1) (gives t2 2),
      ))

-- Two planes that hold the same at entry x for every pair: what fits in one fits in the other, and the sums are the same.
module _ (plane other : List ℤ) (p : PairedLine) (x : ℕ) (t0 t1 t2 t3 : ℤ) (long : length other ≡ length plane)
    (same : (j : ℕ) → j < 8 → get_or other (get_or p.indices j 0 + x) (pos 0) ≡ get_or plane (get_or p.indices j 0 + x) (pos 0)) where
  same-pair : (j : ℕ) → j < 4 → pair_at other p x j ≡ pair_at plane p x j
  same-pair j h = rw (same j (omega arith), same (4 + j) (omega arith)) refl

  pub same-fits : {narrow : Bool} → FourPairsFit plane p x t0 t1 t2 t3 narrow → FourPairsFit other p x t0 t1 t2 t3 narrow
  same-fits fit =
      record {
        inside = λ j h. rw long (fit.inside j h);
        small = λ j h. rw (same-pair j h) (fit.small j h);
        narrowed = λ e j h. rw (same-pair j h) (fit.narrowed e j h);
        room =
            rw (same-pair 0 (omega arith), same-pair 1 (omega arith), same-pair 2 (omega arith), same-pair 3 (omega arith)) fit.room;
      }

  pub same_sum : pair_sum other p t0 t1 t2 t3 x ≡ pair_sum plane p t0 t1 t2 t3 x
  unfolding pair_sum
  same_sum = rw (same-pair 0 (omega arith), same-pair 1 (omega arith), same-pair 2 (omega arith), same-pair 3 (omega arith)) refl
