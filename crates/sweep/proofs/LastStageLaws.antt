-- The last stage of a sweep: what it does to the plane and to the samples at a turn, and what stands there in the end.
-- Assumes nothing.
use mathlib.Core.Path.{◌≡◌, refl, sym, ◌∙◌, ap}
use mathlib.Core.Logic.{◌≢◌}
use mathlib.Core.Bool.{Bool, true, false, ◌&&◌}
use mathlib.Core.List.{List, map}
use Prim.Native.Nat.{ℕ, suc, ◌+◌, ◌*◌, ◌≤◌, ◌<◌}
use native.Mathlib.Decide.{dec_lt}
use native.Mathlib.Omega.{arith}
use lib.IntN.{ℤ, pos}
use lib.ListN.{length, get_or}
use Rattle.base.specs.Every.{all_below}
use Rattle.base.proofs.EveryLaws.{all-at, all_from}
use Rattle.base.proofs.Parity.{all-pairs}
use Rattle.lifting.specs.Layout.{FrameFits, frame_picture, numbers_fit}
use Rattle.filters.specs.Passes.{Picture, rows, all_new_fit}
use Rattle.filters.specs.Planes.{picture_of}
use Rattle.filters.specs.Table.{WellFormed, filter_from}
use Rattle.lifting.specs.declared.frame.Frame.{Frame}
use Rattle.filters.specs.declared.filter.LiftingFilter.{LiftingFilter}
use Rattle.filters.proofs.PassesLaws.{rows-new-all}
use Rattle.filters.specs.Pictures.{target_row}
use Rattle.sweep.specs.declared.level.Level.{Level}
use Rattle.sweep.specs.declared.rows.Crop.{Crop}
use Rattle.sweep.specs.Pairs.{EachPair, FramePut}
use Rattle.sweep.specs.Stages.{lag_of, came_to, Swept, last_of, reach_in}
use Rattle.sweep.specs.Turns.{Bounded}
use Rattle.sweep.specs.Rows.{row_made, pair_fits, with_row, halved_of, by_columns, by_rows}
use Rattle.sweep.specs.LastStage.{finishes, crop_of, rows_left, rows_lag, pair_left, samples_left, SamplesPut, picture_left}
use Rattle.sweep.proofs.StagesLaws.{due-from, lag-last, stages_of, stage-after, stage-left, after-all, lag-grows, reach-had, reach-not}
use Rattle.sweep.proofs.TurnsLaws.{stage-swept, stage-bounded}
use Rattle.filters.proofs.PicturesLaws.{even-target, odd-target, other-even, other-odd}
use Rattle.sweep.proofs.RowsLaws.{row-fits-same, row-made-same, pair-new, pair-others, row-length, row-others, rows-stored, row-test, row_made-told}

-- The test of both rows of a pair, of a picture whose columns are to be filtered first.
abbrev pub row_test : Level → LiftingFilter → Picture → ℕ → Bool
row_test level filter S row =
    all_new_fit 1 (2 * level.frame.band_columns) (map rows (filter_from filter).steps) (λ k. halved_of level.frame (by_columns level.frame filter S) row)

abbrev pub pair_test : Level → LiftingFilter → Picture → ℕ → Bool
pair_test level filter S k = row_test level filter S (2 * k) && row_test level filter S (2 * k + 1)

-- The rows of the pairs that the last stage has come to stand in the samples.
abbrev pub Finished : Level → LiftingFilter → Picture → ℕ → List ℤ → Type 0
Finished level filter S come samples =
    (k : ℕ) (even : Bool) (x : ℕ) → k < come → target_row even k < (crop_of level).height → x < (crop_of level).width
    → get_or samples (target_row even k * (crop_of level).width + x) (pos 0)
    ≡ by_rows level.frame filter (by_columns level.frame filter S) (target_row even k) x

-- Pair k of a plane, once the rows of some pairs before it are filtered.
module _
    (level : Level) (filter : LiftingFilter) (plane : List ℤ) (from k : ℕ) (inside : k < level.frame.band_rows) (work : List ℤ)
    (placed : FrameFits level.frame work) (put : FramePut level.frame from k (rows_left level filter plane) plane work)
  where
    abbrev f : Frame
    f = level.frame

    here-kept : (even : Bool) (x : ℕ) → x < 2 * f.band_columns → frame_picture f work (target_row even k) x ≡ frame_picture f plane (target_row even k) x
    here-kept even x within = put.kept k even x (λ a b. omega arith) within

    pub pair-fits-kept : pair_fits f filter work k ≡ pair_fits f filter plane k
    pair-fits-kept =
        rw (
          row-fits-same f filter placed.columns_least plane work (2 * k) (λ x within. rw (even-target k) at (here-kept true x within)),
          row-fits-same f filter placed.columns_least plane work (2 * k + 1) (λ x within. rw (odd-target k) at (here-kept false x within)),
        )

    made_kept : (even : Bool) (x : ℕ) → x < 2 * f.band_columns → row_made f filter work (target_row even k) x ≡ row_made f filter plane (target_row even k) x
    made_kept even = row-made-same f filter placed.columns_least plane work (target_row even k) (here-kept even)

    pub rows-put : (work' : List ℤ) → work' ≡ pair_left level filter k work → FramePut f k (suc k) (rows_left level filter plane) work work'
    rows-put work' stored =
        record {
          new = λ q even x start end shown within.
              let here : q ≡ k = omega arith in
              rw (here, stored) (pair-new f work placed k inside (rows_left level filter work) even x within ∙ left even x within (finishes level) refl);
          kept = λ q even x out within.
              rw stored (pair-others f work placed k inside (rows_left level filter work) q even (λ e. out (omega (arith, e)) (omega (arith, e))) x within);
        }
      where
        left :
            (even : Bool) (x : ℕ) → x < 2 * f.band_columns → (finished : Bool) → finishes level ≡ finished
            → rows_left level filter work (target_row even k) x ≡ rows_left level filter plane (target_row even k) x
        left even x within true e = rw e
        left even x within false e = rw e (made_kept even x within)

    pub samples-put :
        finishes level ≡ true → (crop_of level).width ≤ 2 * f.band_columns → (samples samples' : List ℤ) → (crop_of level).height * (crop_of level).width ≤ length samples
        → samples' ≡ samples_left level filter k work samples → SamplesPut (crop_of level) k (suc k) (row_made f filter plane) samples samples'
    unfolding picture_of
    samples-put finishes narrow samples samples' room stored =
        let c : Crop = crop_of level in
        let P : Picture = row_made f filter work in
        let one = with_row c (2 * k) (P (2 * k)) samples in
        let both : samples' ≡ with_row c (2 * k + 1) (P (2 * k + 1)) one = rw finishes at stored in
        let long : c.height * c.width ≤ length one = rw (row-length c (2 * k) (P (2 * k)) samples room) room in
        record {
          new = λ q even x start end below within.
              let here : q ≡ k = omega arith in
              rw (here, both) (rows-stored c k even x P samples room (rw here at below) within ∙ made_kept even x (omega arith));
          kept = λ q even x out within.
              let other : q ≢ k = λ e. out (omega (arith, e)) (omega (arith, e)) in
              rw both
              (row-others c (2 * k + 1) (P (2 * k + 1)) one long (target_row even q) x (other-odd even q k other) within
              ∙ row-others c (2 * k) (P (2 * k)) samples room (target_row even q) x (other-even even q k other) within);
        }

-- The last stage at a turn, over stages that end with what the level leaves.
module _ (level : Level) (filter : LiftingFilter) (formed : WellFormed filter) (turn : ℕ) (Q S : Picture) (plane : List ℤ) (placed : FrameFits level.frame plane) where
  abbrev b : ℕ
  b = level.frame.band_rows

  abbrev w : ℕ
  w = 2 * level.frame.band_columns

  abbrev lag : ℕ
  lag = rows_lag level filter

  abbrev T : Picture
  T = by_columns level.frame filter S

  abbrev pictures : ℕ → Picture
  pictures = stages_of level.frame filter Q S (picture_left level filter S)

  abbrev from : ℕ
  from = came_to b lag turn

  abbrev to : ℕ
  to = came_to b lag (turn + 8)

  -- the picture after all steps
  stage-steps : pictures (suc filter.count) ≡ T
  stage-steps = stage-after level.frame filter Q S (picture_left level filter S) filter.count (omega arith) ∙ after-all level.frame filter Q S (picture_left level filter S) formed

  module _ (all : Swept level.frame level.gap (reach_in level.frame filter turn (suc filter.count)) pictures plane) where
    -- the rows of the pairs that it comes to
    rows-here : (k : ℕ) (even : Bool) → from ≤ k → k < to → (x : ℕ) → x < w → frame_picture level.frame plane (target_row even k) x ≡ T (target_row even k) x
    rows-here k even start end x within =
        rw stage-steps at
        (all (suc filter.count) k even (omega arith)
        (record {
          come = rw (reach-had b (last_of filter) turn (suc filter.count) (suc filter.count) (omega arith) (omega arith) (omega arith)) (omega (arith, lag-grows level.gap (suc filter.count) (last_of filter) (omega arith), lag-last filter level.gap));
          next = rw (reach-not b (last_of filter) turn (suc filter.count) (last_of filter) (omega arith) (omega arith) (omega arith)) (omega (arith, lag-last filter level.gap));
        }) x within)

    -- their test
    pub rows_told : (k : ℕ) → from ≤ k → k < to → pair_fits level.frame filter plane k ≡ pair_test level filter S k
    rows_told k start end =
        rw (
          row-test level.frame filter placed.columns_least plane T (2 * k) (λ x within. rw (even-target k) at (rows-here k true start end x within)),
          row-test level.frame filter placed.columns_least plane T (2 * k + 1) (λ x within. rw (odd-target k) at (rows-here k false start end x within)),
        )

    made-here : (k : ℕ) (even : Bool) → from ≤ k → k < to → (x : ℕ) → x < w → row_made level.frame filter plane (target_row even k) x ≡ by_rows level.frame filter T (target_row even k) x
    made-here k even start end = row_made-told level.frame filter placed.columns_least plane T (target_row even k) (rows-here k even start end)

    -- what is left of them
    left_here : (k : ℕ) (even : Bool) → from ≤ k → k < to → (x : ℕ) → x < w → rows_left level filter plane (target_row even k) x ≡ pictures (last_of filter) (target_row even k) x
    left_here k even start end x within = by (finishes level) refl ∙ ap (λ (P : Picture). P (target_row even k) x) (sym (stage-left level.frame filter Q S (picture_left level filter S)))
      where
        by : (finished : Bool) → finishes level ≡ finished → rows_left level filter plane (target_row even k) x ≡ picture_left level filter S (target_row even k) x
        by true e = rw e
        by false e = rw e (made-here k even start end x within)

    module _ (plane' : List ℤ) (put : FramePut level.frame from to (rows_left level filter plane) plane plane') where
      abbrev put_same : FramePut level.frame (came_to b (lag_of level.gap (last_of filter)) turn) (came_to b (lag_of level.gap (last_of filter)) (turn + 8)) (rows_left level filter plane) plane plane'
      put_same = rw (lag-last filter level.gap) put

      pub swept-rows : Swept level.frame level.gap (reach_in level.frame filter turn (last_of filter)) pictures plane'
      swept-rows =
          stage-swept level.frame filter level.gap turn (suc filter.count) (omega arith) (rows_left level filter plane) plane plane' put_same pictures
          (λ k even inside due x within.
          let at = rw (lag-last filter level.gap) at (due-from b level.gap (last_of filter) turn (suc filter.count) (omega arith) k inside due) in
          left_here k even at.0 at.1 x within)
          all

      pub bounded-rows :
          (size : ℕ) → Bounded level.frame level.gap (reach_in level.frame filter turn (suc filter.count)) filter size plane
          → Bounded level.frame level.gap (reach_in level.frame filter turn (last_of filter)) filter size plane'
      bounded-rows size bounded =
          stage-bounded level.frame filter level.gap turn (suc filter.count) (omega arith) (rows_left level filter plane) plane plane' put_same size size (omega arith)
          (λ k even inside due few. absurd (omega arith)) bounded

    -- the samples
    pub finished-more :
        (samples samples' : List ℤ) → SamplesPut (crop_of level) from to (row_made level.frame filter plane) samples samples' → (crop_of level).width ≤ w
        → Finished level filter S from samples → Finished level filter S to samples'
    unfolding picture_of
    finished-more samples samples' put narrow sofar k even x below inside within =
        elim (dec_lt k from) [
          | yes before ↦ put.kept k even x (λ start end. omega arith) within ∙ sofar k even x before inside within
          | no due ↦ put.new k even x (omega arith) below inside within ∙ made-here k even (omega arith) below x (omega arith)
        ]

-- The rows' new numbers fit where those of every pair do, and those of every pair where they do.
module _ (level : Level) (filter : LiftingFilter) (S : Picture) where
  rows-test :
      numbers_fit level.frame (map rows (filter_from filter).steps) (halved_of level.frame (by_columns level.frame filter S))
      ≡ all_below level.frame.band_rows (pair_test level filter S)
  rows-test =
      rows-new-all (2 * level.frame.band_columns) (2 * level.frame.band_rows) (filter_from filter).steps (halved_of level.frame (by_columns level.frame filter S))
      ∙ all-pairs (row_test level filter S) level.frame.band_rows

  pub pairs_fit :
      EachPair 0 level.frame.band_rows (pair_test level filter S)
      → numbers_fit level.frame (map rows (filter_from filter).steps) (halved_of level.frame (by_columns level.frame filter S)) ≡ true
  pairs_fit all = rows-test ∙ all_from (pair_test level filter S) level.frame.band_rows (λ k inside. all k (omega arith) inside)

  pub pair_fits-told :
      numbers_fit level.frame (map rows (filter_from filter).steps) (halved_of level.frame (by_columns level.frame filter S)) ≡ true
      → (k : ℕ) → k < level.frame.band_rows → pair_test level filter S k ≡ true
  pair_fits-told all k inside = all-at (pair_test level filter S) level.frame.band_rows k (sym rows-test ∙ all) inside
