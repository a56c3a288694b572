-- A level swept turn by turn: how it starts, that it fails where a turn does, and what stands in the end.
-- Assumes nothing.
use mathlib.Core.Path.{◌≡◌, refl, sym, ap, ◌∙◌}
use mathlib.Core.Bool.{Bool, true, false}
use mathlib.Core.List.{List, map}
use Prim.Native.Nat.{ℕ, zero, suc, ◌+◌, ◌*◌, ◌≤◌, ◌<◌}
use native.Mathlib.Nat.{mul-le-mul_right}
use native.Mathlib.Decide.{dec_lt}
use native.Mathlib.Omega.{arith}
use lib.IntN.{ℤ, pos}
use lib.ListN.{get_or}
use Rattle.base.proofs.Booleans.{and-true, and-false}
use Rattle.lifting.specs.Layout.{FrameFits, AgreeOn, frame_picture, numbers_fit}
use Rattle.filters.specs.Passes.{Picture, columns, rows}
use Rattle.filters.specs.Planes.{picture_of}
use Rattle.filters.specs.Table.{WellFormed, filter_from}
use Rattle.filters.specs.Pictures.{Agree, target_row}
use Rattle.lifting.specs.declared.frame.Frame.{Frame}
use Rattle.filters.specs.declared.filter.LiftingFilter.{LiftingFilter}
use Rattle.sweep.specs.Bands.{PairWithin, band_rows}
use Rattle.sweep.specs.declared.level.Level.{Level}
use Rattle.sweep.specs.Pairs.{EachPair, FramePut}
use Rattle.sweep.specs.Stages.{At, Swept, came_to, last_of, reach_in}
use Rattle.sweep.specs.Turns.{Bounded, step_fits, TurnFits}
use Rattle.sweep.specs.LastStage.{finishes, crop_of, rows_left, rows_lag, SamplesPut, picture_left}
use Rattle.sweep.specs.Levels.{RoomFor}
use Rattle.sweep.specs.Rows.{row_made, pair_fits, halved_of, by_columns, by_rows, both_fit}
use Rattle.sweep.proofs.LastStageLaws.{pair_test, Finished, rows_told, swept-rows, bounded-rows, finished-more, pairs_fit, pair_fits-told}
use Rattle.sweep.proofs.StagesLaws.{stages_of, stage-came, stage-left, steps-fit, step_fits-told, reach-past, reach-not, turn-over, swept_all}
use Rattle.filters.proofs.PicturesLaws.{by-pairs, pair-below}
use Rattle.sweep.proofs.BandsLaws.{swept-bands, bounded-bands}

module _ (level : Level) (filter : LiftingFilter) (padded : ℕ) (work₀ coefficients : List ℤ) where
  abbrev f : Frame
  f = level.frame

  -- The picture that the level starts from, as it stands once it is interleaved.
  abbrev pub input : Picture
  input = band_rows f padded work₀ coefficients

  abbrev pub level_pictures : ℕ → Picture
  level_pictures = stages_of f filter (frame_picture f work₀) input (picture_left level filter input)

  -- The planes at a turn.
  pub record Progress (most turn : ℕ) (work samples : List ℤ) : Type 0 where
    pub bounded : Bounded f level.gap (reach_in f filter turn 0) filter (suc most) work
    pub swept : Swept f level.gap (reach_in f filter turn 0) level_pictures work
    pub finished : finishes level ≡ true → Finished level filter input (came_to f.band_rows (rows_lag level filter) turn) samples
    pub columns-fit : (i : ℕ) → i < filter.count → EachPair 0 (came_to f.band_rows ((i + 1) * level.gap) turn) (step_fits f filter level_pictures i)
    pub rows_fit : EachPair 0 (came_to f.band_rows (rows_lag level filter) turn) (pair_test level filter input)

  -- no pair has come to a stage yet
  none_yet : (n k : ℕ) → At level.gap (reach_in f filter 0 0) (suc n) k → ⊥
  none_yet n k at =
      elim (dec_lt (last_of filter) (suc n)) [
        | yes past ↦ omega (arith, rw (reach-past f.band_rows (last_of filter) 0 0 (suc n) past) at at.come)
        | no inside ↦ omega (arith, rw (reach-not f.band_rows (last_of filter) 0 0 (suc n) (omega arith) (omega arith) (omega arith)) at at.come)
      ]

  pub progress-none : (samples : List ℤ) → Progress 0 0 work₀ samples
  progress-none samples =
      record {
        bounded = λ stage k even inside at n same few. absurd (none_yet n k (rw same at at));
        swept = came;
        finished = λ yes k even x below. absurd (omega arith);
        columns-fit = λ i few k from to. absurd (omega arith);
        rows_fit = λ k from to. absurd (omega arith);
      }
    where
      came : Swept f level.gap (reach_in f filter 0 0) level_pictures work₀
      came zero k even inside at x within = ap (λ (P : Picture). P (target_row even k) x) (sym (stage-came f filter (frame_picture f work₀) input (picture_left level filter input)))
      came (suc n) k even inside at x within = absurd (none_yet n k at)

  module _ (formed : WellFormed filter) where
    -- where a turn fails, the level does
    pub columns-fail : (turn : ℕ) → (TurnFits f filter level.gap turn level_pictures → ⊥) → false ≡ both_fit f filter input
    columns-fail turn failed = by (numbers_fit f (map columns (filter_from filter).steps) input) refl
      where
        by : (fits : Bool) → numbers_fit f (map columns (filter_from filter).steps) input ≡ fits → false ≡ both_fit f filter input
        by true e =
            absurd
            (failed (λ i below k from to. step_fits-told f filter (frame_picture f work₀) input (picture_left level filter input) formed e i k below (omega arith)))
        by false e = rw e

    pub rows-fail :
        (turn : ℕ)
        → (EachPair (came_to f.band_rows (rows_lag level filter) turn) (came_to f.band_rows (rows_lag level filter) (turn + 8)) (pair_test level filter input) → ⊥)
        → false ≡ both_fit f filter input
    rows-fail turn failed = by (numbers_fit f (map rows (filter_from filter).steps) (halved_of f (by_columns f filter input))) refl
      where
        by : (fits : Bool) → numbers_fit f (map rows (filter_from filter).steps) (halved_of f (by_columns f filter input)) ≡ fits → false ≡ both_fit f filter input
        by true e = absurd (failed (λ k from to. pair_fits-told level filter input e k (omega arith)))
        by false e =
            sym
            (and-false (numbers_fit f (map columns (filter_from filter).steps) input)
            (numbers_fit f (map rows (filter_from filter).steps) (halved_of f (by_columns f filter input))) e)

    -- in the end
    module _ (most turn : ℕ) (work samples : List ℤ) (over : f.band_rows + rows_lag level filter ≤ turn) (all : Progress most turn work samples) where
      pub level-fits : true ≡ both_fit f filter input
      level-fits =
          sym
          (and-true _ _
          (steps-fit f filter (frame_picture f work₀) input (picture_left level filter input) formed
          (λ i k below inside.
          let nearer : (i + 1) * level.gap ≤ rows_lag level filter = mul-le-mul_right level.gap (omega arith) in
          all.columns-fit i below k (omega arith) (omega arith)))
          (pairs_fit level filter input (λ k from to. all.rows_fit k from (omega arith))))

      pub level-left : AgreeOn f (frame_picture f work) (picture_left level filter input)
      level-left row x below within =
          by-pairs (λ r. frame_picture f work r x ≡ picture_left level filter input r x) row
          (λ k even same.
          swept_all f filter level.gap turn level_pictures work over all.swept k even (pair-below even k row f.band_rows same below) x within
          ∙ ap (λ (P : Picture). P (target_row even k) x) (stage-left f filter (frame_picture f work₀) input (picture_left level filter input)))

      pub level-finished :
          finishes level ≡ true → (crop_of level).height ≤ 2 * f.band_rows
          → Agree (crop_of level).height (crop_of level).width (picture_of (crop_of level).width samples) (by_rows f filter (by_columns f filter input))
      unfolding picture_of
      level-finished finishes short row x below within =
          by-pairs (λ r. get_or samples (r * (crop_of level).width + x) (pos 0) ≡ by_rows f filter (by_columns f filter input) r x) row
          (λ k even same. all.finished finishes k even x (omega (arith, pair-below even k row f.band_rows same (omega arith))) (rw same below) within)

    -- A turn.
    module _ (most turn : ℕ) (work samples : List ℤ) (old : Progress most turn work samples) where
      -- the bands of its pairs are interleaved
      module _
          (here most' : ℕ) (larger : (most ≤ most') × (here ≤ most')) (banded : List ℤ)
          (put : FramePut f (came_to f.band_rows 0 turn) (came_to f.band_rows 0 (turn + 8)) (band_rows f padded work coefficients) work banded)
        where
          pub turn-bounded :
              ((k : ℕ) → came_to f.band_rows 0 turn ≤ k → k < came_to f.band_rows 0 (turn + 8) → PairWithin f k (suc here) banded)
              → Bounded f level.gap (reach_in f filter turn 1) filter (suc most') banded
          turn-bounded measured =
              bounded-bands f filter level.gap turn padded work₀ coefficients work (picture_left level filter input) banded put
              (suc most) (suc most') here (omega (arith, larger.0)) (omega (arith, larger.1)) measured old.bounded

          pub turn-swept : Swept f level.gap (reach_in f filter turn 1) level_pictures banded
          turn-swept = swept-bands f filter level.gap turn padded work₀ coefficients work (picture_left level filter input) banded put old.swept

      -- the steps have come to their pairs
      module _ (most' : ℕ) (lifted : List ℤ) (placed : FrameFits f lifted) (swept : Swept f level.gap (reach_in f filter turn (suc filter.count)) level_pictures lifted) where
        abbrev from : ℕ
        from = came_to f.band_rows (rows_lag level filter) turn

        abbrev to : ℕ
        to = came_to f.band_rows (rows_lag level filter) (turn + 8)

        pub turn-rows : (k : ℕ) → from ≤ k → k < to → pair_fits f filter lifted k ≡ pair_test level filter input k
        turn-rows = rows_told level filter formed turn (frame_picture f work₀) input lifted placed swept

        -- and the rows of its pairs are filtered
        pub progress-more :
            Bounded f level.gap (reach_in f filter turn (suc filter.count)) filter (suc most') lifted
            → TurnFits f filter level.gap turn level_pictures → EachPair from to (pair_fits f filter lifted) → RoomFor level samples
            → (work' samples' : List ℤ) → FramePut f from to (rows_left level filter lifted) lifted work'
            → (finishes level ≡ true → SamplesPut (crop_of level) from to (row_made f filter lifted) samples samples')
            → Progress most' (turn + 8) work' samples'
        progress-more bounded steps-fit pairs_fit room work' samples' kept put =
            record {
              bounded =
                  turn-over f.band_rows level.gap (last_of filter) turn _
                  (bounded-rows level filter formed turn (frame_picture f work₀) input lifted placed swept work' kept (suc most') bounded);
              swept =
                  turn-over f.band_rows level.gap (last_of filter) turn _
                  (swept-rows level filter formed turn (frame_picture f work₀) input lifted placed swept work' kept);
              finished = λ yes.
                  finished-more level filter formed turn (frame_picture f work₀) input lifted placed swept samples samples' (put yes) (room yes).0 (old.finished yes);
              columns-fit = λ i few k start end.
                  elim (dec_lt k (came_to f.band_rows ((i + 1) * level.gap) turn)) [
                    | yes before ↦ old.columns-fit i few k start before
                    | no due ↦ steps-fit i few k (omega arith) end
                  ];
              rows_fit = λ k start end.
                  elim (dec_lt k from) [
                    | yes before ↦ old.rows_fit k start before
                    | no due ↦ sym (turn-rows k (omega arith) end) ∙ pairs_fit k (omega arith) end
                  ];
            }
