-- A pair of rows whose bands are interleaved: what it holds, how large its numbers are, and that the other rows are as they were; so the first stage
-- of a sweep has come to it.
-- Assumes nothing.
use mathlib.Core.Path.{◌≡◌, refl, ap, ◌∙◌, subst, sym}
use mathlib.Core.Logic.{◌≢◌}
use mathlib.Core.Bool.{cond, Bool, true, false}
use mathlib.Core.List.{List}
use Prim.Native.Nat.{ℕ, ◌+◌, ◌-◌, ◌*◌, ◌≤◌, ◌<◌, suc, ◌/◌, ◌%◌}
use native.Mathlib.Decide.{dec_lt}
use native.Mathlib.Omega.{arith}
use lib.Dec.{ltb}
use lib.IntN.{ℤ, pos, nat_abs}
use lib.ListN.{length, get_or}
use borrow.Author.Tests.{lt-ltb, le-ltb, eq-eqb, ne_eqb}
use Rattle.base.specs.Fill.{fill}
use Rattle.base.proofs.FillLaws.{length-fill, get_d-fill-in}
use Rattle.base.proofs.Grids.{row-end, row-filled, other-row-kept, columns-before-kept}
use Rattle.lines.specs.Buffers.{Within}
use Rattle.lifting.specs.Layout.{FrameFits, frame_picture}
use Rattle.filters.specs.Passes.{Picture, run_all}
use Rattle.filters.specs.Planes.{picture_of}
use Rattle.filters.specs.Bounds.{bound_of}
use Rattle.lifting.specs.declared.frame.Frame.{Frame}
use Rattle.filters.specs.declared.filter.LiftingFilter.{LiftingFilter}
use Rattle.filters.specs.Pictures.{target_row}
use Rattle.sweep.specs.Bands.{with_band_row, PairWithin, band_rows}
use Rattle.sweep.specs.Pairs.{FramePut}
use Rattle.sweep.specs.Stages.{lag_of, came_to, Swept, last_of, reach_in}
use Rattle.sweep.specs.Turns.{Bounded, bounds_by}
use Rattle.sweep.proofs.TurnsLaws.{stage-swept, stage-bounded}
use Rattle.sweep.proofs.StagesLaws.{Due, due-from, stages_of, stage-came, stage-after, reach-not, reach-first, lag-came, lag-first}
use Rattle.filters.proofs.PicturesLaws.{even-target, odd-target, other-even, other-odd}

module _ (coefficients : List ℤ) (pw rows columns stride : ℕ) (apart : 2 * columns ≤ stride) where
  -- two parts of rows filled
  module _ (work : List ℤ) (k : ℕ) (room : (2 * k + 1) * stride + 2 * columns ≤ length work) where
    abbrev upper_row : ℕ → ℤ
    upper_row x = get_or coefficients (k * pw + columns + x) (pos 0)

    abbrev lower_row : ℕ → ℤ
    lower_row x = get_or coefficients ((rows + k) * pw + x) (pos 0)

    abbrev first : List ℤ
    first = fill work (2 * k * stride + columns) columns upper_row

    abbrev second : List ℤ
    second = fill first ((2 * k + 1) * stride) (2 * columns) lower_row

    -- the even row ends before the odd one
    even-room : 2 * k * stride + columns + columns ≤ length work
    even-room = omega (arith, row-end (2 * k) (2 * k + 1) stride stride (omega arith) (omega arith))

    -- rows that a store does not touch
    odd-kept : (b y : ℕ) → b ≢ 2 * k + 1 → y < stride → get_or second (b * stride + y) (pos 0) ≡ get_or first (b * stride + y) (pos 0)
    odd-kept b y other inside =
        other-row-kept first stride (2 * k + 1) 0 (2 * columns) ((2 * k + 1) * stride) (omega arith) lower_row (pos 0) b y other (omega arith) inside

    even-kept : (b y : ℕ) → b ≢ 2 * k → y < stride → get_or first (b * stride + y) (pos 0) ≡ get_or work (b * stride + y) (pos 0)
    even-kept b y other inside =
        other-row-kept work stride (2 * k) columns columns (2 * k * stride + columns) refl upper_row (pos 0) b y other (omega arith) inside

    -- the two rows are as large as what they were made of
    pub pair-within : (m : ℕ) → Within work (2 * k * stride) columns m → Within coefficients (k * pw + columns) columns m → Within coefficients ((rows + k) * pw) (2 * columns) m
        → Within second (2 * k * stride) (2 * columns) m × Within second ((2 * k + 1) * stride) (2 * columns) m
    pair-within m low upper lower = (
      λ x h.
          elim (dec_lt x columns) [
            | yes left ↦
                rw (odd-kept (2 * k) x (omega arith) (omega arith) ∙ columns-before-kept work stride (2 * k) columns columns (2 * k * stride + columns) refl upper_row (pos 0) x left)
                (low x left)
            | no right ↦
                let y : ℕ = x - columns in
                let split : columns + y ≡ x = omega arith in
                subst (λ (q : ℕ). nat_abs (get_or second (2 * k * stride + q) (pos 0)) ≤ m) split
                (rw (odd-kept (2 * k) (columns + y) (omega arith) (omega arith) ∙ row-filled work stride (2 * k) columns columns (2 * k * stride + columns) refl upper_row (pos 0) y (omega arith) even-room)
                (upper y (omega arith)))
          ],
      λ x h. rw (get_d-fill-in first ((2 * k + 1) * stride) lower_row (2 * columns) x (pos 0) h (rw (length-fill work (2 * k * stride + columns) upper_row columns) (omega arith))) (lower x h),
    )

    -- what they hold
    pub even-row :
        (x : ℕ) → x < 2 * columns
        → get_or second (2 * k * stride + x) (pos 0) ≡ cond (ltb x columns) (get_or work (2 * k * stride + x) (pos 0)) (get_or coefficients (k * pw + x) (pos 0))
    even-row x h =
        odd-kept (2 * k) x (omega arith) (omega arith)
        ∙ elim (dec_lt x columns) [
          | yes left ↦
              rw (lt-ltb x columns left) (columns-before-kept work stride (2 * k) columns columns (2 * k * stride + columns) refl upper_row (pos 0) x left)
          | no right ↦
              let y : ℕ = x - columns in
              let split : columns + y ≡ x = omega arith in
              let flat : k * pw + columns + y ≡ k * pw + x = omega arith in
              rw (le-ltb x columns (omega arith))
              (subst (λ (q : ℕ). get_or first (2 * k * stride + q) (pos 0) ≡ get_or coefficients (k * pw + x) (pos 0)) split
              (row-filled work stride (2 * k) columns columns (2 * k * stride + columns) refl upper_row (pos 0) y (omega arith) even-room
              ∙ ap (λ (q : ℕ). get_or coefficients q (pos 0)) flat))
        ]

    pub odd-row : (x : ℕ) → x < 2 * columns → get_or second ((2 * k + 1) * stride + x) (pos 0) ≡ get_or coefficients ((rows + k) * pw + x) (pos 0)
    odd-row x h = get_d-fill-in first ((2 * k + 1) * stride) lower_row (2 * columns) x (pos 0) h (rw (length-fill work (2 * k * stride + columns) upper_row columns) (omega arith))

    -- and the others
    pub others-kept : (row x : ℕ) → x < 2 * columns → row ≢ 2 * k → row ≢ 2 * k + 1 → get_or second (row * stride + x) (pos 0) ≡ get_or work (row * stride + x) (pos 0)
    others-kept row x h even odd = odd-kept row x odd (omega arith) ∙ even-kept row x even (omega arith)

-- The interleaved rows of a pair.
module _ (f : Frame) (padded : ℕ) (source coefficients : List ℤ) (k x : ℕ) where
  band-even :
      band_rows f padded source coefficients (target_row true k) x
      ≡ cond (ltb x f.band_columns) (frame_picture f source (target_row true k) x) (picture_of padded coefficients k x)
  unfolding band_rows
  band-even =
      let parity : 2 * k % 2 ≡ 0 = omega arith in
      let half : 2 * k / 2 ≡ k = omega arith in
      rw (even-target k, eq-eqb (2 * k % 2) 0 parity, half)

  band-odd : band_rows f padded source coefficients (target_row false k) x ≡ picture_of padded coefficients (f.band_rows + k) x
  unfolding band_rows
  band-odd =
      let half : (2 * k + 1) / 2 ≡ k = omega arith in
      rw (odd-target k, ne_eqb ((2 * k + 1) % 2) 0 (λ e. omega arith), half)

-- they are the same of planes that have the same even row
bands-same :
    (f : Frame) (padded : ℕ) (A B coefficients : List ℤ) (k x : ℕ) → frame_picture f A (target_row true k) x ≡ frame_picture f B (target_row true k) x
    → (even : Bool) → band_rows f padded A coefficients (target_row even k) x ≡ band_rows f padded B coefficients (target_row even k) x
bands-same f padded A B coefficients k x same true =
    band-even f padded A coefficients k x ∙ rw same (sym (band-even f padded B coefficients k x))
bands-same f padded A B coefficients k x same false = band-odd f padded A coefficients k x ∙ sym (band-odd f padded B coefficients k x)

-- Pair k of a plane, once the bands of some pairs before it are interleaved.
module _
    (f : Frame) (padded : ℕ) (plane coefficients : List ℤ) (from k : ℕ) (inside : k < f.band_rows) (work : List ℤ) (placed : FrameFits f work)
    (put : FramePut f from k (band_rows f padded plane coefficients) plane work) (work' : List ℤ) (stored : work' ≡ with_band_row f padded k work coefficients)
  where
    odd-inside : (2 * k + 1) * f.stride + 2 * f.band_columns ≤ length work
    odd-inside = omega (arith, row-end (2 * k + 1) (2 * f.band_rows) f.stride (2 * f.band_columns) (omega arith) placed.apart, placed.inside)

    stored_here : (even : Bool) (x : ℕ) → x < 2 * f.band_columns → frame_picture f work' (target_row even k) x ≡ band_rows f padded work coefficients (target_row even k) x
    unfolding picture_of
    stored_here true x within =
        let row = even-row coefficients padded f.band_rows f.band_columns f.stride placed.apart work k odd-inside x within in
        rw (band-even f padded work coefficients k x, stored, even-target k) row
    stored_here false x within =
        let row = odd-row coefficients padded f.band_rows f.band_columns f.stride placed.apart work k odd-inside x within in
        rw (band-odd f padded work coefficients k x, stored, odd-target k) row

    pub bands-put : FramePut f k (suc k) (band_rows f padded plane coefficients) work work'
    unfolding picture_of
    bands-put =
        record {
          new = λ q even x start end shown within.
              let here : q ≡ k = omega arith in
              rw here (stored_here even x within ∙ bands-same f padded work plane coefficients k x (put.kept k true x (λ a b. omega arith) within) even);
          kept = λ q even x out within.
              let other : q ≢ k = λ e. out (omega (arith, e)) (omega (arith, e)) in
              rw stored
              (others-kept coefficients padded f.band_rows f.band_columns f.stride placed.apart work k odd-inside (target_row even q) x within
              (other-even even q k other) (other-odd even q k other));
        }

    -- the numbers of the other pairs are as large as they were
    pub sizes-kept : (q m : ℕ) → q ≢ k → PairWithin f q m work → PairWithin f q m work'
    unfolding picture_of
    sizes-kept q m other all =
        let same : (even : Bool) (x : ℕ) → x < 2 * f.band_columns → frame_picture f work' (target_row even q) x ≡ frame_picture f work (target_row even q) x =
        λ even x within. bands-put.kept q even x (λ start end. other (omega arith)) within
        in (
          λ x within. rw (rw (even-target q) at (same true x within)) (all.0 x within),
          λ x within. rw (rw (odd-target q) at (same false x within)) (all.1 x within),
        )

-- The first stage: the bands of the turn's pairs are interleaved.
module _ (f : Frame) (filter : LiftingFilter) (gap turn padded : ℕ) (work₀ coefficients plane : List ℤ) (Z : Picture) where
  abbrev b : ℕ
  b = f.band_rows

  abbrev pictures : ℕ → Picture
  pictures = stages_of f filter (frame_picture f work₀) (band_rows f padded work₀ coefficients) Z

  -- what they are
  bands-here :
      Swept f gap (reach_in f filter turn 0) pictures plane → (k : ℕ) (even : Bool) → k < b → Due b gap (last_of filter) turn 0 (omega arith) k
      → (x : ℕ) → x < 2 * f.band_columns → band_rows f padded plane coefficients (target_row even k) x ≡ pictures 1 (target_row even k) x
  unfolding run_all
  bands-here all k even inside due x within =
      let came = all 0 k true inside (record { come = rw (reach-first b (last_of filter) turn 0, lag-came gap) (omega arith); next = rw (reach-not b (last_of filter) turn 0 1 (omega arith) (omega arith) (omega arith)) due.0 }) x within in
      rw (stage-after f filter (frame_picture f work₀) (band_rows f padded work₀ coefficients) Z 0 (omega arith))
      (bands-same f padded plane work₀ coefficients k x (rw (stage-came f filter (frame_picture f work₀) (band_rows f padded work₀ coefficients) Z) at came) even)

  module _ (plane' : List ℤ) (put : FramePut f (came_to b 0 turn) (came_to b 0 (turn + 8)) (band_rows f padded plane coefficients) plane plane') where
    abbrev put_same : FramePut f (came_to b (lag_of gap 1) turn) (came_to b (lag_of gap 1) (turn + 8)) (band_rows f padded plane coefficients) plane plane'
    put_same = rw (lag-first gap) put

    pub swept-bands : Swept f gap (reach_in f filter turn 0) pictures plane → Swept f gap (reach_in f filter turn 1) pictures plane'
    swept-bands all =
        stage-swept f filter gap turn 0 (omega arith) (band_rows f padded plane coefficients) plane plane' put_same pictures (bands-here all) all

    pub bounded-bands :
        (size size' here : ℕ) → size ≤ size' → suc here ≤ size'
        → ((k : ℕ) → came_to b 0 turn ≤ k → k < came_to b 0 (turn + 8) → PairWithin f k (suc here) plane')
        → Bounded f gap (reach_in f filter turn 0) filter size plane → Bounded f gap (reach_in f filter turn 1) filter size' plane'
    unfolding bounds_by bound_of picture_of
    bounded-bands size size' here grows most measured all =
        stage-bounded f filter gap turn 0 (omega arith) (band_rows f padded plane coefficients) plane plane' put_same size size' grows
        (λ k even inside due few x within.
        let at = rw (lag-first gap) at (due-from b gap (last_of filter) turn 0 (omega arith) k inside due) in
        of_pair k even (measured k at.0 at.1) x within)
        all
      where
        of_pair : (k : ℕ) (even : Bool) → PairWithin f k (suc here) plane' → (x : ℕ) → x < 2 * f.band_columns → nat_abs (frame_picture f plane' (target_row even k) x) ≤ cond even size' size'
        of_pair k true all x within = rw (even-target k) (omega (arith, all.0 x within))
        of_pair k false all x within = rw (odd-target k) (omega (arith, all.1 x within))
