use mathlib.Core.Path.{◌≡◌, refl, sym}
use mathlib.Core.Bool.{false}
use mathlib.Core.List.{[], map}
use Prim.Native.Nat.{ℕ, ◌<◌}
use native.Mathlib.Omega.{arith}
use lib.ListN.{length, get_or, take}
use lib.Seq.{take_all}
use Rattle.std.proofs.lemmas.List.{get_or-take, length-take}
use Rattle.std.proofs.lemmas.Result.{err_from_is_err_and}
use Rattle.filters.specs.Passes.{rows, run, run_all, all_new_fit}
use Rattle.filters.specs.Table.{step_of, WellFormedStep, filter_from}
use Rattle.filters.specs.declared.filter.LiftingStep.{LiftingStep}
use Rattle.filters.proofs.PassesLaws.{passes-more, passes-stop, rows_same}
use Rattle.filters.proofs.LiftingLaws.{twice-length}
use Rattle.filters.proofs.TableLaws.{passes-counted, pass-inside, pass-in-use}
use Rattle.lifting.proofs.rows.filter_halves.Goals as goal
use Rattle.lifting.proofs.rows.filter_halves.Goals.{In-loop-step}

pub loop-step-init : goal.loop-step-init
unfolding run_all all_new_fit
loop-step-init c = (refl, (λ row x r h. refl), c.requires.halves_within)

-- The step of a turn: it is that step of the filter, and its pass is the next pass.
module _ (c : In-loop-step) where
  abbrev k : ℕ
  k = c.loop-step.step-index

  abbrev next : LiftingStep
  next = get_or (take c.args.filter.count c.args.filter.steps) k (record { even = false; adds = false; lead = 0; taps = []; count = 0; scale = 0; gain = 0 })

  in-use : k < c.args.filter.count
  in-use = omega (arith, c.loop-step-test.true, length-take c.args.filter.count c.args.filter.steps)

  same-step : (other : LiftingStep) → get_or (take c.args.filter.count c.args.filter.steps) k other ≡ get_or c.args.filter.steps k other
  same-step other = get_or-take c.args.filter.count c.args.filter.steps k other in-use

  formed : WellFormedStep next
  formed = rw (same-step _) (c.requires.le_half.2.each k _ in-use)

  inside-passes : k < length (map rows (filter_from c.args.filter).steps)
  inside-passes = pass-inside c.args.filter c.requires.le_half.2.there rows k in-use

  is-pass : get_or (map rows (filter_from c.args.filter).steps) k (rows (step_of next)) ≡ rows (step_of next)
  is-pass = rw (same-step _) (pass-in-use c.args.filter c.requires.le_half.2.there rows k _ in-use)

pub lift_halves-requires : goal.lift_halves-requires
lift_halves-requires c =
    record { le_half = (c.requires.le_half.0, c.requires.le_half.1, formed (goal.at.lift_halves-requires c).In-loop-step); halves_within = c.loop-step.invariant.2 }

pub returns-in_err-lift_halves-clause-told : goal.returns-in_err-lift_halves-clause-told
returns-in_err-lift_halves-clause-told c =
    let at = (goal.at.returns-in_err-lift_halves-clause-told c).In-loop-step in
    let failed = err_from_is_err_and c.from_residual.result c.from_residual.ensures.1 in
    rw failed.1
    (sym
    (passes-stop _ _ _ (k at) _ _ _ (inside-passes at) (is-pass at) (rows_same _ _ (twice-length _ c.requires.le_half.0) (step_of (next at)))
    c.loop-step.invariant.0 c.loop-step.invariant.1 (sym c.in_err-lift_halves.ensures.told)))

pub bounds_after-bounds-requires : goal.bounds_after-bounds-requires
bounds_after-bounds-requires c =
    let bounds = c.loop-step.invariant.2 in
    (formed (goal.at.bounds_after-bounds-requires c).In-loop-step, (bounds.0, bounds.1))

pub loop-step-preserved : goal.loop-step-preserved
unfolding run
loop-step-preserved c =
    let at = (goal.at.loop-step-preserved c).In-loop-step in
    let lifted = c.in_ok-lift_halves.ensures in
    let more =
    passes-more _ _ _ (k at) _ _ _ (inside-passes at) (is-pass at) (rows_same _ _ (twice-length _ c.requires.le_half.0) (step_of (next at)))
    c.loop-step.invariant.0 c.loop-step.invariant.1 _ (sym lifted.told) (λ row x r h. lifted.done refl x h)
    in
    (more.0, more.1, rw c.bounds_after-bounds.ensures (lifted.bounded refl))

pub returns : goal.returns
returns c =
    let steps = (filter_from c.args.filter).steps in
    let all : take c.loop-step.step-index (map rows steps) ≡ map rows steps =
    take_all c.loop-step.step-index (map rows steps)
    (rw (passes-counted c.args.filter c.requires.le_half.2.there rows)
    (omega (arith, c.loop-step-test.false, c.requires.le_half.2.there, length-take c.args.filter.count c.args.filter.steps)))
    in
    record { told = sym (rw all at c.loop-step.invariant.0); done = λ fits x h. (rw all at c.loop-step.invariant.1) 0 x (omega arith) h }
