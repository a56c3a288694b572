use mathlib.Core.Path.{◌≡◌}
use Prim.Native.Nat.{◌<◌}
use native.Mathlib.Decide.{dec_lt}
use native.Mathlib.Omega.{arith}
use lib.ListN.{get_or, take}
use Rattle.std.proofs.lemmas.List.{get_or-take, length-take}
use Rattle.filters.specs.declared.filter.LiftingStep.{LiftingStep}
use Rattle.sweep.proofs.gaps.gap_of.Goals as goal
use Rattle.sweep.proofs.gaps.gap_of.Goals.{In-loop-step}

-- the step of a turn is that step of the filter
in-use : (c : In-loop-step) → c.loop-step.step-index < c.args.filter.count
in-use c = omega (arith, c.loop-step-test.true, length-take c.args.filter.count c.args.filter.steps)

same-step : (c : In-loop-step) (other : LiftingStep) → get_or (take c.args.filter.count c.args.filter.steps) c.loop-step.step-index other ≡ get_or c.args.filter.steps c.loop-step.step-index other
same-step c other = get_or-take c.args.filter.count c.args.filter.steps c.loop-step.step-index other (in-use c)

pub step_gap-requires : goal.step_gap-requires
step_gap-requires c =
    let at = (goal.at.step_gap-requires c).In-loop-step in
    rw (same-step at _) (c.requires.each c.loop-step.step-index _ (in-use at))

pub loop-step-preserved : goal.loop-step-preserved
loop-step-preserved c =
    let at = (goal.at.loop-step-preserved c).In-loop-step in
    let here = rw (same-step at _) at c.step_gap.ensures in
    let most = c.max-gap.ensures in (
      omega (arith, most, here.0, c.loop-step.invariant.0),
      λ j h. elim (dec_lt j c.loop-step.step-index) [
        | yes earlier ↦ let before = c.loop-step.invariant.1 j earlier in (omega (arith, most, before.0), omega (arith, most, before.1))
        | no last ↦
            let same : j ≡ c.loop-step.step-index = omega arith in
            rw same (omega (arith, most, here.1), omega (arith, most, here.2))
      ],
    )

pub returns : goal.returns
returns c =
    let all : c.args.filter.count ≡ c.loop-step.step-index =
    omega (arith, c.loop-step-test.false, c.loop-step.auto.step-index-end, c.requires.there, length-take c.args.filter.count c.args.filter.steps)
    in
    (λ i h. c.loop-step.invariant.1 i (omega (arith, all, h)), c.loop-step.invariant.0)
