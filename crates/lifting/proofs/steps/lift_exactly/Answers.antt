use mathlib.Core.Path.{◌≡◌, refl, sym, ◌∙◌}
use mathlib.Core.Bool.{Bool, true, false, false≢true}
use mathlib.Core.List.{List}
use lib.IntN.{ℤ}
use Prim.Native.Nat.{ℕ, ◌+◌, ◌≤◌}
use native.Mathlib.Omega.{arith}
use Rattle.std.proofs.lemmas.Result.{err_from_is_err_and}
use Rattle.base.specs.Every.{all_below}
use Rattle.base.specs.Fill.{fill}
use Rattle.base.specs.Range.{fits32}
use Rattle.base.proofs.EveryLaws.{all_none, all-part, all_append}
use Rattle.base.proofs.FillLaws.{fill_none}
use Rattle.lifting.specs.Lines.{line_new, LineLifted}
use Rattle.lifting.proofs.LinesLaws.{part-inside, part-told, part-done}
use Rattle.lifting.proofs.steps.lift_exactly.Goals as goal
use Rattle.lifting.proofs.steps.lift_exactly.Goals.{After-moved_by-part_starts}

pub loop-done-init : goal.loop-done-init
loop-done-init c = (omega arith, refl, sym (fill_none _ _ _), all_none _)

pub overflow_sub-width : goal.overflow_sub-width
overflow_sub-width c = omega (arith, c.loop-done.invariant.0)

pub moved_by-part_starts-requires : goal.moved_by-part_starts-requires
moved_by-part_starts-requires c =
    (c.requires.formed.few_taps, λ t h. omega (arith, c.loop-done.invariant.0, c.requires.sources_inside t h, c.well_formed.0.0))

pub overflow_add-start : goal.overflow_add-start
overflow_add-start c =
    omega (arith, c.loop-done.invariant.0, c.requires.inside, c.well_formed.0.0)

-- The part that a turn lifts.
module _ (c : After-moved_by-part_starts) where
  abbrev part : ℕ
  part = c.min-part.result

  within : c.loop-done.done + part ≤ c.args.width
  within = omega (arith, c.loop-done.invariant.0, c.min-part.ensures)

pub lift_part-requires : goal.lift_part-requires
lift_part-requires c = (
  part-inside c.args.step c.args.starts.now c.args.plane.now c.args.start c.args.width c.requires c.loop-done.done c.loop-done.plane c.loop-done.invariant.2
      c.moved_by-part_starts.result c.moved_by-part_starts.ensures (part (goal.at.lift_part-requires c).After-moved_by-part_starts) (within (goal.at.lift_part-requires c).After-moved_by-part_starts),
  omega (arith, c.min-part.ensures),
)

-- What a part is told, and what it leaves.
module _ (c : After-moved_by-part_starts) where
  abbrev new : ℕ → Bool
  new x = fits32 (line_new c.args.step c.args.starts.now c.args.plane.now c.args.start x)

  told :
      (answer : Bool) (plane' : List ℤ) → LineLifted c.args.step c.moved_by-part_starts.result (c.args.start + c.loop-done.done) (part c) c.loop-done.plane answer plane'
      → answer ≡ all_below (part c) (λ x. new (c.loop-done.done + x))
  told =
      part-told c.args.step c.args.starts.now c.args.plane.now c.args.start c.args.width c.requires
      c.loop-done.done c.loop-done.plane c.loop-done.invariant.2 c.moved_by-part_starts.result c.moved_by-part_starts.ensures (part c) (within c)

-- the line fails where a part of it does
part-fails : (test : ℕ → Bool) (width done part : ℕ) → done + part ≤ width → all_below part (λ x. test (done + x)) ≡ false → false ≡ all_below width test
part-fails test width done part inside fails = by (all_below width test) refl
  where
    by : (all : Bool) → all_below width test ≡ all → false ≡ all_below width test
    by true e = absurd (false≢true (sym fails ∙ all-part test width done part e inside))
    by false e = sym e

pub returns-in_err-lift_part : goal.returns-in_err-lift_part
returns-in_err-lift_part c =
    let at = (goal.at.returns-in_err-lift_part c).After-moved_by-part_starts in
    let failed = err_from_is_err_and c.from_residual.result c.from_residual.ensures.1 in
    rw failed.1
    (record { told = part-fails (new at) c.args.width c.loop-done.done (part at) (within at) (sym (told at _ _ c.in_err-lift_part.ensures)); done = λ wrong. absurd (false≢true wrong) })

-- What stands once a part is lifted: as much of the line as is lifted then, and that it fits.
module _ (c : After-moved_by-part_starts) where
  more :
      (plane' : List ℤ) → LineLifted c.args.step c.moved_by-part_starts.result (c.args.start + c.loop-done.done) (part c) c.loop-done.plane true plane'
      → (plane' ≡ fill c.args.plane.now c.args.start (c.loop-done.done + part c) (line_new c.args.step c.args.starts.now c.args.plane.now c.args.start))
      × (all_below (c.loop-done.done + part c) (new c) ≡ true)
  more plane' lifted = (
    part-done c.args.step c.args.starts.now c.args.plane.now c.args.start c.args.width c.requires c.loop-done.done c.loop-done.plane c.loop-done.invariant.2
        c.moved_by-part_starts.result c.moved_by-part_starts.ensures (part c) (within c) _ _ lifted refl,
    all_append (new c) c.loop-done.done (part c) c.loop-done.invariant.3 (sym (told c _ _ lifted)),
  )

pub loop-done-preserved : goal.loop-done-preserved
loop-done-preserved c =
    let at = (goal.at.loop-done-preserved c).After-moved_by-part_starts in
    let next : c.loop-done.done + part at ≡ c.loop-done.done + 256 = omega (arith, c.min-part.ensures) in
    let after = rw next at (more at _ c.in_ok-lift_part.ensures) in
    (omega (arith, within at, next), c.lift_part.auto.plane ∙ c.loop-done.invariant.1, after.0, after.1)

pub shape_of-plane : goal.shape_of-plane
shape_of-plane c = c.loop-done.invariant.1

pub returns-in_ok-lift_part : goal.returns-in_ok-lift_part
returns-in_ok-lift_part c =
    let at = (goal.at.returns-in_ok-lift_part c).After-moved_by-part_starts in
    let all : c.loop-done.done + part at ≡ c.args.width = omega (arith, c.min-part.ensures) in
    let after = rw all at (more at _ c.in_ok-lift_part.ensures) in
    record { told = sym after.1; done = λ went. after.0 }

pub returns : goal.returns
returns c =
    let all : c.loop-done.done ≡ c.args.width = omega (arith, c.loop-done.invariant.0, c.loop-done-test.false) in
    record { told = sym (rw all at c.loop-done.invariant.3); done = λ went. rw all at c.loop-done.invariant.2 }
