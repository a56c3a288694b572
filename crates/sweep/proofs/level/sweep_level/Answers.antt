use mathlib.Core.Path.{◌≡◌, refl, ◌∙◌}
use mathlib.Core.List.{List}
use Prim.Native.Nat.{ℕ, suc, ◌+◌, ◌≤◌, ◌<◌}
use native.Mathlib.Nat.{mul-le-mul}
use native.Mathlib.Omega.{arith}
use lib.IntN.{ℤ}
use lib.ListN.{length}
use Rattle.std.proofs.lemmas.Result.{err_from_is_err_and}
use Rattle.lifting.specs.Layout.{FrameFits}
use Rattle.lifting.proofs.LayoutLaws.{frame-fits-same}
use Rattle.filters.specs.Passes.{Picture}
use Rattle.sweep.specs.Bands.{band_rows}
use Rattle.sweep.specs.Pairs.{FramePut}
use Rattle.sweep.specs.Stages.{Swept, came_to, reach_in}
use Rattle.sweep.specs.Turns.{Bounded}
use Rattle.sweep.specs.LastStage.{finishes, rows_lag}
use Rattle.sweep.specs.Levels.{RoomFor}
use Rattle.sweep.proofs.LevelsLaws.{Progress, level_pictures, progress-none, turn-bounded, turn-swept, turn-rows, progress-more, columns-fail, rows-fail, level-fits, level-left, level-finished}
use Rattle.sweep.proofs.StagesLaws.{stages-made}
use Rattle.sweep.proofs.level.sweep_level.Goals as goal
use Rattle.sweep.proofs.level.sweep_level.Goals.{After-join-most, After-lift_turn, In-loop-turn, In_ok-filter_pairs, Start}

pub overflow_add-lag : goal.overflow_add-lag
overflow_add-lag c = omega (arith, c.requires.frame_fits.1.few)

-- the lag of the last stage is small
small : (c : Start) → rows_lag c.args.level c.args.filter ≤ 20
small c =
    let few : c.args.filter.count + 1 ≤ 5 = omega (arith, c.requires.frame_fits.1.few) in
    mul-le-mul few c.requires.frame_fits.3

pub overflow_mul-lag : goal.overflow_mul-lag
overflow_mul-lag c = omega (arith, small (goal.at.overflow_mul-lag c).Start)

pub overflow_add-last : goal.overflow_add-last
overflow_add-last c = omega (arith, small (goal.at.overflow_add-last c).Start, c.requires.frame_fits.0.rows_most)

pub loop-turn-init : goal.loop-turn-init
loop-turn-init c = progress-none c.args.level c.args.filter c.args.padded_width c.args.work.now c.args.coefficients.now c.args.samples.now

-- A turn is at most that at which the last stage comes to the last pair.
module _ (c : In-loop-turn) where
  few-turns : c.loop-turn.turn < 2068
  few-turns = omega (arith, c.loop-turn-test.true, small c.before.before.before.before.before, c.requires.frame_fits.0.rows_most)

pub overflow_add-turn : goal.overflow_add-turn
overflow_add-turn c = omega (arith, few-turns (goal.at.overflow_add-turn c).In-loop-turn)

pub interleave_pairs-here-requires : goal.interleave_pairs-here-requires
interleave_pairs-here-requires c =
    rw (c.came_to-from.ensures, c.came_to-to.ensures)
    (record { frame_fits = (frame-fits-same _ _ _ c.requires.frame_fits.0 c.loop-turn.auto.work, omega arith, omega arith); bands_inside = c.requires.bands_inside })

-- Once the bands of the turn's pairs are interleaved.
module _ (c : After-join-most) where
  abbrev banded : List ℤ
  banded = c.interleave_pairs-here.new.work

  placed-banded : FrameFits c.args.level.frame banded
  placed-banded = frame-fits-same _ _ _ c.requires.frame_fits.0 (c.interleave_pairs-here.auto.work ∙ c.loop-turn.auto.work)

  bands-put :
      FramePut c.args.level.frame (came_to c.args.level.frame.band_rows 0 c.loop-turn.turn) (came_to c.args.level.frame.band_rows 0 (c.loop-turn.turn + 8))
      (band_rows c.args.level.frame c.args.padded_width c.loop-turn.work c.args.coefficients.now) c.loop-turn.work banded
  bands-put = rw (c.came_to-from.ensures, c.came_to-to.ensures) at c.interleave_pairs-here.ensures.stored

  bounded-banded : Bounded c.args.level.frame c.args.level.gap (reach_in c.args.level.frame c.args.filter c.loop-turn.turn 1) c.args.filter (suc c.join-most.result) banded
  bounded-banded =
      turn-bounded c.args.level c.args.filter c.args.padded_width c.args.work.now c.args.coefficients.now c.requires.frame_fits.1
      c.loop-turn.most c.loop-turn.turn c.loop-turn.work c.loop-turn.samples c.loop-turn.invariant
      c.interleave_pairs-here.result c.join-most.result c.join-most.ensures banded bands-put
      (rw (c.came_to-from.ensures, c.came_to-to.ensures) at c.interleave_pairs-here.ensures.measured)

  swept-banded : Swept c.args.level.frame c.args.level.gap (reach_in c.args.level.frame c.args.filter c.loop-turn.turn 1) (level_pictures c.args.level c.args.filter c.args.padded_width c.args.work.now c.args.coefficients.now) banded
  swept-banded =
      turn-swept c.args.level c.args.filter c.args.padded_width c.args.work.now c.args.coefficients.now c.requires.frame_fits.1
      c.loop-turn.most c.loop-turn.turn c.loop-turn.work c.loop-turn.samples c.loop-turn.invariant
      c.interleave_pairs-here.result c.join-most.result c.join-most.ensures banded bands-put

pub lift_turn-requires : goal.lift_turn-requires
lift_turn-requires c =
    record { frame_fits = (placed-banded (goal.at.lift_turn-requires c).After-join-most, c.requires.frame_fits.1, c.requires.frame_fits.2, c.requires.frame_fits.3, omega (arith, few-turns (goal.at.lift_turn-requires c).In-loop-turn)); bounded_2 = bounded-banded (goal.at.lift_turn-requires c).After-join-most }

-- What the steps have told and left, once they have come to their pairs.
module _ (c : After-lift_turn) where
  abbrev lifted : List ℤ
  lifted = c.lift_turn.new.work

  long-lifted : length lifted ≡ length c.args.work.now
  long-lifted = c.lift_turn.auto.work ∙ c.interleave_pairs-here.auto.work ∙ c.loop-turn.auto.work

  placed-lifted : FrameFits c.args.level.frame lifted
  placed-lifted = frame-fits-same _ _ _ c.requires.frame_fits.0 long-lifted

  abbrev pictures : ℕ → Picture
  pictures = level_pictures c.args.level c.args.filter c.args.padded_width c.args.work.now c.args.coefficients.now

  came : Swept c.args.level.frame c.args.level.gap (reach_in c.args.level.frame c.args.filter c.loop-turn.turn 1) pictures c.interleave_pairs-here.new.work
  came = swept-banded c.before.before

  room : RoomFor c.args.level c.loop-turn.samples
  room finishes = let all = c.requires.frame_fits.4 finishes in (all.0, all.1, rw c.loop-turn.auto.samples all.2)

pub returns-in_err-lift_turn-clause-told : goal.returns-in_err-lift_turn-clause-told
returns-in_err-lift_turn-clause-told c =
    let at = (goal.at.returns-in_err-lift_turn-clause-told c).After-lift_turn in
    let failed = err_from_is_err_and c.from_residual.result c.from_residual.ensures.1 in
    rw failed.1
    (columns-fail c.args.level c.args.filter c.args.padded_width c.args.work.now c.args.coefficients.now c.requires.frame_fits.1
    c.loop-turn.turn ((c.in_err-lift_turn.ensures.swept (pictures at) (stages-made c.args.level.frame c.args.filter _ _ _ c.requires.frame_fits.1) (came at)).0.1 refl))

pub filter_pairs-requires : goal.filter_pairs-requires
filter_pairs-requires c =
    let at = (goal.at.filter_pairs-requires c).After-lift_turn in
    rw (c.came_to-first.ensures, c.came_to-end.ensures)
    (record { frame_fits = (placed-lifted at, c.requires.frame_fits.1, room at); from_le_to = (omega arith, omega arith) })

pub returns-in_err-filter_pairs-clause-told : goal.returns-in_err-filter_pairs-clause-told
returns-in_err-filter_pairs-clause-told c =
    let at = (goal.at.returns-in_err-filter_pairs-clause-told c).After-lift_turn in
    let failed = err_from_is_err_and c.from_residual-in_err-filter_pairs.result c.from_residual-in_err-filter_pairs.ensures.1 in
    let steps = c.in_ok-lift_turn.ensures.swept (pictures at) (stages-made c.args.level.frame c.args.filter _ _ _ c.requires.frame_fits.1) (came at) in
    let stopped = rw (c.came_to-first.ensures, c.came_to-end.ensures) at (c.in_err-filter_pairs.ensures.told.1 refl) in
    rw failed.1
    (rows-fail c.args.level c.args.filter c.args.padded_width c.args.work.now c.args.coefficients.now c.requires.frame_fits.1 c.loop-turn.turn
    (λ all.
    stopped
    (λ k begin end.
    turn-rows c.args.level c.args.filter c.args.padded_width c.args.work.now c.args.coefficients.now c.requires.frame_fits.1
    c.loop-turn.most c.loop-turn.turn c.loop-turn.work c.loop-turn.samples c.loop-turn.invariant c.join-most.result (lifted at) (placed-lifted at) (steps.1 refl) k begin end
    ∙ all k begin end)))

-- What stands once the rows of a turn's pairs are filtered.
turned :
    (c : In_ok-filter_pairs)
    → Progress c.args.level c.args.filter c.args.padded_width c.args.work.now c.args.coefficients.now
    c.join-most.result (c.loop-turn.turn + 8) c.filter_pairs.new.work c.filter_pairs.new.samples
turned c =
    let at : After-lift_turn = c.before.before.before.before.before.before.before.before.before.before.before.before.before in
    let steps = c.in_ok-lift_turn.ensures.swept (pictures at) (stages-made c.args.level.frame c.args.filter _ _ _ c.requires.frame_fits.1) (came at) in
    let rows = c.in_ok-filter_pairs.ensures in
    progress-more c.args.level c.args.filter c.args.padded_width c.args.work.now c.args.coefficients.now c.requires.frame_fits.1
    c.loop-turn.most c.loop-turn.turn c.loop-turn.work c.loop-turn.samples c.loop-turn.invariant c.join-most.result (lifted at) (placed-lifted at) (steps.1 refl)
    (c.in_ok-lift_turn.ensures.bounded refl) (steps.0.0 refl)
    (rw (c.came_to-first.ensures, c.came_to-end.ensures) at (rows.told.0 refl)) (room at) _ _
    (rw (c.came_to-first.ensures, c.came_to-end.ensures) at (rows.done refl))
    (λ finishes. rw (c.came_to-first.ensures, c.came_to-end.ensures) at (rows.finished refl finishes))

pub loop-turn-preserved : goal.loop-turn-preserved
loop-turn-preserved c = turned (goal.at.loop-turn-preserved c).In_ok-filter_pairs

pub returns-in_ok-filter_pairs : goal.returns-in_ok-filter_pairs
returns-in_ok-filter_pairs c =
    let level = c.args.level in
    let all = turned (goal.at.returns-in_ok-filter_pairs c).In_ok-filter_pairs in
    let over : level.frame.band_rows + rows_lag level c.args.filter ≤ c.loop-turn.turn + 8 = omega arith in record {
      told = level-fits level c.args.filter c.args.padded_width c.args.work.now c.args.coefficients.now c.requires.frame_fits.1 _ _ _ _ over all;
      done = λ went. level-left level c.args.filter c.args.padded_width c.args.work.now c.args.coefficients.now c.requires.frame_fits.1 _ _ _ _ over all;
      finished = λ went finishes. level-finished level c.args.filter c.args.padded_width c.args.work.now c.args.coefficients.now c.requires.frame_fits.1
          _ _ _ _ over all finishes (c.requires.frame_fits.4 finishes).1;
    }

pub returns : goal.returns
returns c =
    let level = c.args.level in
    let over : level.frame.band_rows + rows_lag level c.args.filter ≤ c.loop-turn.turn = omega (arith, c.loop-turn-test.false) in record {
      told = level-fits level c.args.filter c.args.padded_width c.args.work.now c.args.coefficients.now c.requires.frame_fits.1
          c.loop-turn.most c.loop-turn.turn c.loop-turn.work c.loop-turn.samples over c.loop-turn.invariant;
      done = λ went. level-left level c.args.filter c.args.padded_width c.args.work.now c.args.coefficients.now c.requires.frame_fits.1
          c.loop-turn.most c.loop-turn.turn c.loop-turn.work c.loop-turn.samples over c.loop-turn.invariant;
      finished = λ went finishes. level-finished level c.args.filter c.args.padded_width c.args.work.now c.args.coefficients.now c.requires.frame_fits.1
          c.loop-turn.most c.loop-turn.turn c.loop-turn.work c.loop-turn.samples over c.loop-turn.invariant finishes (c.requires.frame_fits.4 finishes).1;
    }
