use mathlib.Core.Path.{◌≡◌, refl, sym, ap, ◌∙◌}
use mathlib.Core.Bool.{false≢true}
use Prim.Native.Nat.{ℕ, suc, ◌+◌, ◌*◌, ◌≤◌, ◌<◌}
use native.Mathlib.Nat.{mul-le-mul}
use native.Mathlib.Decide.{dec_lt}
use native.Mathlib.Numerals.{add-one}
use native.Mathlib.Omega.{arith}
use lib.ListN.{get_or, take}
use Rattle.std.proofs.lemmas.List.{get_or-take, length-take}
use Rattle.std.proofs.lemmas.Result.{err_from_is_err_and}
use Rattle.filters.specs.Bounds.{bounds_after}
use Rattle.filters.specs.Passes.{Picture}
use Rattle.filters.specs.Table.{WellFormedStep}
use Rattle.filters.proofs.BoundsLaws.{bounds-most}
use Rattle.filters.specs.declared.filter.LiftingStep.{LiftingStep}
use Rattle.lifting.specs.Layout.{FrameFits}
use Rattle.lifting.specs.Lines.{new_row_fits}
use Rattle.lifting.proofs.LayoutLaws.{frame-fits-same}
use Rattle.sweep.specs.Stages.{Stages, Swept, came_to, reach_in, step_at}
use Rattle.sweep.specs.Turns.{bounds_by, step_fits}
use Rattle.sweep.proofs.TurnsLaws.{pair-due, row_within, step-told, swept-more, bounded-more}
use Rattle.sweep.proofs.turns.lift_turn.Goals as goal
use Rattle.sweep.proofs.turns.lift_turn.Goals.{In-loop-i}

pub loop-i-init : goal.loop-i-init
unfolding bounds_by
loop-i-init c =
    let one : c.args.most + 1 ≡ suc c.args.most = omega arith in
    (rw (c.from-size.ensures, one) refl, omega arith, omega arith, c.requires.bounded_2, λ stages made all. (λ n few. absurd (omega arith), all))

-- Step i of the filter, over the plane as it is at the head of a turn.
module _ (c : In-loop-i) where
  abbrev step : LiftingStep
  step = step_at c.args.filter c.loop-i.i

  in-use : c.loop-i.i < c.args.filter.count
  in-use = omega (arith, c.loop-i-test.true, length-take c.args.filter.count c.args.filter.steps)

  same-step : (other : LiftingStep) → get_or (take c.args.filter.count c.args.filter.steps) c.loop-i.i other ≡ get_or c.args.filter.steps c.loop-i.i other
  same-step other = get_or-take c.args.filter.count c.args.filter.steps c.loop-i.i other in-use

  formed : WellFormedStep step
  formed = c.requires.frame_fits.1.each c.loop-i.i _ in-use

  placed : FrameFits c.args.frame c.loop-i.work
  placed = frame-fits-same _ _ _ c.requires.frame_fits.0 c.loop-i.auto.work

  -- its lag is small
  small : (c.loop-i.i + 1) * c.args.gap ≤ 16
  small =
      let few : c.loop-i.i + 1 ≤ 4 = omega (arith, in-use, c.requires.frame_fits.1.few) in
      mul-le-mul few c.requires.frame_fits.3

  abbrev from : ℕ
  from = came_to c.args.frame.band_rows ((c.loop-i.i + 1) * c.args.gap) c.args.turn

  abbrev to : ℕ
  to = came_to c.args.frame.band_rows ((c.loop-i.i + 1) * c.args.gap) (c.args.turn + 8)

  -- a test of the plane's rows is that of the next stage's
  told :
      (stages : ℕ → Picture) → Stages c.args.frame c.args.filter stages
      → Swept c.args.frame c.args.gap (reach_in c.args.frame c.args.filter c.args.turn (suc c.loop-i.i)) stages c.loop-i.work
      → (k : ℕ) → from ≤ k → k < to → new_row_fits c.args.frame step c.loop-i.work k ≡ step_fits c.args.frame c.args.filter stages c.loop-i.i k
  told stages made all k first end =
      let at = pair-due c.args.frame c.args.filter c.args.gap c.args.turn c.loop-i.i in-use c.requires.frame_fits.2 c.loop-i.work k first end in
      step-told c.args.frame c.args.filter c.args.gap c.args.turn c.loop-i.i in-use c.requires.frame_fits.2 c.loop-i.work k at.0 at.1 stages made all

pub overflow_mul-lag : goal.overflow_mul-lag
overflow_mul-lag c = omega (arith, small (goal.at.overflow_mul-lag c).In-loop-i)

pub lift_rows-requires : goal.lift_rows-requires
lift_rows-requires c =
    let at = (goal.at.lift_rows-requires c).In-loop-i in
    rw (c.came_to-from.ensures, c.came_to-to.ensures, same-step at _) (record {
      frame_fits = (placed at, formed at, (c.loop-i.invariant.1, c.loop-i.invariant.2));
      from_le_to = (
        omega arith,
        omega arith,
        λ k begin end.
            let due = pair-due c.args.frame c.args.filter c.args.gap c.args.turn c.loop-i.i (in-use at) c.requires.frame_fits.2 c.loop-i.work k begin end in
            rw c.loop-i.invariant.0
            (row_within c.args.frame c.args.filter c.args.gap c.args.turn c.loop-i.i (in-use at) c.requires.frame_fits.2 c.loop-i.work k due.0 due.1 _ c.loop-i.invariant.3),
      );
    })

pub returns-in_err-lift_rows : goal.returns-in_err-lift_rows
returns-in_err-lift_rows c =
    let at = (goal.at.returns-in_err-lift_rows c).In-loop-i in
    let failed = err_from_is_err_and c.from_residual.result c.from_residual.ensures.1 in
    let stopped = rw (c.came_to-from.ensures, c.came_to-to.ensures, same-step at _) at (c.in_err-lift_rows.ensures.told.1 refl) in
    rw failed.1
    (record {
      bounded = λ wrong. absurd (false≢true wrong);
      swept = λ stages made all.
          let swept = c.loop-i.invariant.4 stages made all in (
            (
              λ wrong. absurd (false≢true wrong),
              λ same fits. stopped (λ k begin end. told at stages made swept.1 k begin end ∙ fits c.loop-i.i (in-use at) k begin end),
            ),
            λ wrong. absurd (false≢true wrong),
          );
    })

pub bounds_after-bounds-requires : goal.bounds_after-bounds-requires
bounds_after-bounds-requires c =
    let at = (goal.at.bounds_after-bounds-requires c).In-loop-i in
    (rw (same-step at _) (formed at), (c.loop-i.invariant.1, c.loop-i.invariant.2))

pub loop-i-preserved : goal.loop-i-preserved
unfolding bounds_by
loop-i-preserved c =
    let at = (goal.at.loop-i-preserved c).In-loop-i in
    let i = c.loop-i.i in
    let lifted = c.in_ok-lift_rows.ensures in
    let tested = rw (c.came_to-from.ensures, c.came_to-to.ensures, same-step at _) at (lifted.told.0 refl) in
    let put = rw (c.came_to-from.ensures, c.came_to-to.ensures, same-step at _) at (lifted.done refl) in
    let after = rw (same-step at _) at c.bounds_after-bounds.ensures in
    let most = bounds-most (step at) c.loop-i.bounds c.loop-i.invariant.1 c.loop-i.invariant.2 in
    rw (add-one i) (
      after ∙ ap (bounds_after (step at)) c.loop-i.invariant.0,
      rw after most.0,
      rw after most.1,
      bounded-more c.args.frame c.args.filter c.args.gap c.args.turn i (in-use at) c.requires.frame_fits.2 c.loop-i.work _ put _ (formed at) tested c.loop-i.invariant.3,
      λ stages made all.
          let swept = c.loop-i.invariant.4 stages made all in (
            λ n few.
                elim (dec_lt n i) [
                  | yes before ↦ swept.0 n before
                  | no last ↦
                      let same : n ≡ i = omega arith in
                      rw same (λ k begin end. sym (told at stages made swept.1 k begin end) ∙ tested k begin end)
                ],
            swept-more c.args.frame c.args.filter c.args.gap c.args.turn i (in-use at) c.requires.frame_fits.2 c.loop-i.work _ put stages made swept.1,
          ),
    )

pub returns : goal.returns
returns c =
    let all : c.loop-i.i ≡ c.args.filter.count =
    omega (arith, c.loop-i.auto.i-end, c.loop-i-test.false, c.requires.frame_fits.1.there, length-take c.args.filter.count c.args.filter.steps)
    in
    record {
      bounded = λ went. rw all at c.loop-i.invariant.3;
      swept = λ stages made came.
          let swept = c.loop-i.invariant.4 stages made came in
          ((λ went n few. swept.0 n (omega (arith, few, all)), λ wrong. absurd (false≢true (sym wrong))), λ went. rw all at swept.1);
    }
