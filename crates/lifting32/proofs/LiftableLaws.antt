-- A line that can be lifted by its taps can be lifted by the one or by their pairs, and becomes the same.
-- Assumes nothing.
use mathlib.Core.Path.{◌≡◌, refl, sym, ap, subst, ◌∙◌}
use mathlib.Core.Bool.{Bool, false, false≢true}
use mathlib.Core.List.{List}
use mathlib.Core.Logic.{◌≢◌}
use Prim.Native.Nat.{ℕ, ◌+◌, ◌-◌, ◌*◌, ◌^◌, ◌≤◌, ◌<◌}
use native.Mathlib.Omega.{arith}
use lib.IntN.{ℤ, pos, nat_abs, ◌+ℤ◌, ◌*ℤ◌}
use lib.ListN.{length, get_or, set}
use Rattle.base.specs.Fill.{fill}
use Rattle.base.proofs.FillLaws.{fill-same, fill_more, get_d-fill-out}
use Rattle.base.proofs.Integers.{size-add}
use Rattle.lines.specs.Sums.{sum_below, sizes_below, tap_at, sum_at, changed, line_lifted}
use Rattle.lines.proofs.SumsLaws.{tap-size, sum_one, sizes-two}
use Rattle.lifting32.specs.Liftable.{NewNumbersFit, ReadsFrom, Liftable, lifted_by_taps, one_sum, LiftableByOne, lifted_by_one}
use Rattle.lifting32.specs.Liftable.{LiftableByPairs, lifted_by_pairs, LiftableByPairsOf, lifted_by_pairs_of}
use Rattle.lifting32.specs.Pairs.{PairTapsFit, PairedFrom, pair_tap, pair_or_middle, pair_index, pair_at, pair_sum, FourPairsFit}
use Rattle.lifting32.specs.declared.LineStep.{LineStep}
use Rattle.lifting32.specs.declared.PairedLine.{PairedLine}
use Rattle.lifting32.proofs.PairsLaws.{middle-in, middle-below, tap-in, tap-out, index-first, index-second, index-any, pairs-summed, pairs-sized}

-- sums that are the same leave the line the same
lines_same : (plane : List ℤ) (line : LineStep) (adds : Bool) (f g : ℕ → ℤ) → ((x : ℕ) → x < line.width → f x ≡ g x)
    → line_lifted adds line.scale plane line.start line.width f ≡ line_lifted adds line.scale plane line.start line.width g
lines_same plane line adds f g same =
    fill-same plane line.start _ _ line.width (λ x h. ap (changed adds line.scale (get_or plane (line.start + x) (pos 0))) (same x h))

fits-same : (plane : List ℤ) (line : LineStep) (adds : Bool) (f g : ℕ → ℤ) → ((x : ℕ) → x < line.width → f x ≡ g x)
    → NewNumbersFit plane line adds g → NewNumbersFit plane line adds f
fits-same plane line adds f g same fit =
    record { inside = fit.inside; scaled = fit.scaled; new_fit = λ x h. rw (same x h) (fit.new_fit x h) }

-- numbers that are narrow are numbers
pub any-numbers : {plane : List ℤ} {line : LineStep} {taps : List ℤ} {starts : List ℕ} {count : ℕ} {adds narrow : Bool}
    → Liftable plane line taps starts count adds narrow → Liftable plane line taps starts count adds false
any-numbers l =
    record {
      some_taps = l.some_taps;
      few_taps = l.few_taps;
      symmetric = l.symmetric;
      real_taps = l.real_taps;
      small_taps = l.small_taps;
      reads = l.reads;
      narrowed = λ e. absurd (false≢true e);
      room = l.room;
      line_fits = l.line_fits;
    }

-- One tap.
module _ {plane : List ℤ} {line : LineStep} {taps : List ℤ} {starts : List ℕ} {adds narrow : Bool} (l : Liftable plane line taps starts 1 adds narrow) where
  same-one : (x : ℕ) → one_sum plane line (get_or starts 0 0) (get_or taps 0 (pos 0)) x ≡ sum_at line.round taps starts 1 plane x
  unfolding one_sum tap_at
  same-one x = sum_one line.round (tap_at taps starts plane x)

  pub by_one : LiftableByOne plane line (get_or starts 0 0) (get_or taps 0 (pos 0)) adds
  unfolding tap_at sizes_below
  by_one =
      record {
        reads = l.reads 0 (omega arith);
        room = λ x h. omega (arith, l.room x h);
        line_fits = fits-same plane line adds _ _ (λ x h. same-one x) l.line_fits;
      }

  pub lifted-one : lifted_by_one plane line (get_or starts 0 0) (get_or taps 0 (pos 0)) adds ≡ lifted_by_taps plane line taps starts 1 adds
  unfolding lifted_by_one
  lifted-one = lines_same plane line adds _ _ (λ x h. same-one x)

-- Pairs of taps, and the indices that they read from.
module _ {plane : List ℤ} {line : LineStep} {taps : List ℤ} {starts : List ℕ} {count : ℕ} {adds narrow : Bool}
    (l : Liftable plane line taps starts count adds narrow) (half : ℕ) (whole : count ≡ 2 * half) where
  some : 1 ≤ half
  some = omega (arith, whole, l.some_taps)

  few : half ≤ 4
  few = omega (arith, whole, l.few_taps)

  pub taps-fit : PairTapsFit taps half
  taps-fit = record { few = few; small = λ t h. l.small_taps t (omega (arith, whole)) }

  module _ (indices : List ℕ) (same : (j : ℕ) → j < 8 → get_or indices j 0 ≡ pair_index starts half j) where
    abbrev sums : ℕ → ℤ
    sums = sum_at line.round taps starts count plane

    abbrev paired : PairedLine
    paired = record { line = line; indices = indices }

    abbrev tap : ℕ → ℤ
    tap j = pair_tap taps half j

    -- what pair j reads at entry x, and what its taps give
    abbrev first : ℕ → ℕ → ℤ
    first x j = get_or plane (get_or indices j 0 + x) (pos 0)

    abbrev second : ℕ → ℕ → ℤ
    second x j = get_or plane (get_or indices (4 + j) 0 + x) (pos 0)

    low : (x j : ℕ) → j < half → tap_at taps starts plane x (half - 1 - j) ≡ tap j *ℤ first x j
    unfolding tap_at
    low x j h = rw (tap-in taps half j h, same j (omega (arith, few)), index-first starts half j (omega (arith, few)), middle-in half j h) refl

    high : (x j : ℕ) → j < half → tap_at taps starts plane x (half + j) ≡ tap j *ℤ second x j
    unfolding tap_at
    high x j h =
        let mirror : count - 1 - (half - 1 - j) ≡ half + j = omega (arith, whole) in
        let equal : get_or taps (half + j) (pos 0) ≡ get_or taps (half - 1 - j) (pos 0) = rw mirror at (l.symmetric.1 (half - 1 - j) (omega (arith, whole))) in
        rw (tap-in taps half j h, same (4 + j) (omega (arith, few)), index-second starts half j, middle-in half j h, equal) refl

    -- the sum of the pairs is the sum of the taps
    same-pairs : (x : ℕ) → pair_sum plane paired (tap 0) (tap 1) (tap 2) (tap 3) x ≡ sums x
    unfolding pair_sum
    same-pairs x =
        pairs-summed (tap_at taps starts plane x) half tap (first x) (second x) (low x) (high x) (tap-out taps half) line.round few
        ∙ ap (λ (n : ℕ). line.round +ℤ sum_below (tap_at taps starts plane x) n) (sym whole)

    -- what holds of every tap's start holds of every index
    any-index : (Q : ℕ → Type 0) → ((t : ℕ) → t < count → Q (get_or starts t 0)) → (j : ℕ) → j < 8 → Q (get_or indices j 0)
    any-index Q all j h = rw (same j h) (index-any starts half Q some (λ t below. all t (omega (arith, whole))) j)

    -- a number that is read is no larger than what its tap gives, and the two of a pair fit 32 bits together
    element : (t x : ℕ) → t < count → nat_abs (get_or plane (get_or starts t 0 + x) (pos 0)) ≤ nat_abs (tap_at taps starts plane x t)
    unfolding tap_at
    element t x h = tap-size (get_or taps t (pos 0)) (get_or plane (get_or starts t 0 + x) (pos 0)) (l.real_taps t h)

    both : (x j : ℕ) → x < line.width → j < 4 → nat_abs (pair_at plane paired x j) < 2 ^ 31
    both x j h below =
        let m = pair_or_middle half j in
        let inside = middle-below half j some in
        let a : nat_abs (first x j) ≤ nat_abs (tap_at taps starts plane x (half - 1 - m)) =
        rw (same j (omega arith), index-first starts half j below) (element (half - 1 - m) x (omega (arith, whole)))
        in
        let b : nat_abs (second x j) ≤ nat_abs (tap_at taps starts plane x (half + m)) =
        rw (same (4 + j) (omega arith), index-second starts half j) (element (half + m) x (omega (arith, whole, inside)))
        in
        let two = sizes-two (tap_at taps starts plane x) count (half - 1 - m) (half + m) (omega arith) (omega (arith, whole, inside)) in
        omega (arith, size-add (first x j) (second x j), a, b, two, l.room x h)

    fit_at : (x : ℕ) → x < line.width → FourPairsFit plane paired x (tap 0) (tap 1) (tap 2) (tap 3) narrow
    fit_at x h =
        record {
          inside = any-index (λ i. i + x < length plane) (λ t below. omega (arith, (l.reads t below).inside));
          small = λ j below. both x j h below;
          narrowed = λ e j below.
              let each = any-index (λ i. nat_abs (get_or plane (i + x) (pos 0)) < 2 ^ 14) (λ t inside. omega (arith, l.narrowed e t x inside h)) in
              omega (arith, size-add (first x j) (second x j), each j (omega arith), each (4 + j) (omega arith));
          room =
              let sized = pairs-sized (tap_at taps starts plane x) half tap (first x) (second x) (low x) (high x) (tap-out taps half) few in
              let all : nat_abs line.round + sizes_below (tap_at taps starts plane x) (2 * half) < 2 ^ 31 = rw (← whole) (l.room x h) in
              omega (arith, sized, all);
        }

    by-indices : LiftableByPairsOf plane paired taps half adds narrow
    by-indices =
        record {
          reads = any-index (ReadsFrom plane line) (λ t below. l.reads t below);
          pairs_fit = fit_at;
          line_fits = fits-same plane line adds _ _ (λ x h. same-pairs x) l.line_fits;
        }

    lifted-indices : lifted_by_pairs_of plane paired taps half adds ≡ lifted_by_taps plane line taps starts count adds
    unfolding lifted_by_pairs
    lifted-indices = lines_same plane line adds _ _ (λ x h. same-pairs x)

  -- a line that is paired is one with its indices
  module _ {p : PairedLine} (so : PairedFrom line starts half p) where
    as-indices : p ≡ record { line = line; indices = p.indices }
    as-indices = ap (λ (k : LineStep). record { line = k; indices = p.indices }) so.same_line

    pub by-pairs : LiftableByPairsOf plane p taps half adds narrow
    by-pairs = subst (λ (q : PairedLine). LiftableByPairsOf plane q taps half adds narrow) (sym as-indices) (by-indices p.indices so.each)

    pub lifted-pairs : lifted_by_pairs_of plane p taps half adds ≡ lifted_by_taps plane line taps starts count adds
    lifted-pairs = ap (λ (q : PairedLine). lifted_by_pairs_of plane q taps half adds) as-indices ∙ lifted-indices p.indices so.each

-- pairs whose numbers are narrow are pairs
pub widened : {plane : List ℤ} {p : PairedLine} {t0 t1 t2 t3 : ℤ} {adds narrow : Bool}
    → LiftableByPairs plane p t0 t1 t2 t3 adds narrow → LiftableByPairs plane p t0 t1 t2 t3 adds false
widened l =
    record {
      reads = l.reads;
      pairs_fit = λ x h.
          let fit = l.pairs_fit x h in
          record { inside = fit.inside; small = fit.small; narrowed = λ e. absurd (false≢true e); room = fit.room };
      line_fits = l.line_fits;
    }

-- A plane m in which the first x numbers of a line of the plane l are replaced: those outside are as they were, and so is the next, and it can be
-- replaced too.
module _ (l m : List ℤ) (start x : ℕ) (f : ℕ → ℤ) (so : m ≡ fill l start x f) where
  pub outside : (i : ℕ) → ((k : ℕ) → k < x → i ≢ start + k) → get_or m i (pos 0) ≡ get_or l i (pos 0)
  outside i apart = rw so (get_d-fill-out l start f x i (pos 0) apart)

  pub next : get_or m (start + x) (pos 0) ≡ get_or l (start + x) (pos 0)
  next = outside (start + x) (λ k below. omega arith)

  pub stored : (v : ℤ) → v ≡ f x → set m (start + x) v ≡ fill l start (x + 1) f
  stored v new = rw (so, new) (fill_more l start f x (start + x) refl)
