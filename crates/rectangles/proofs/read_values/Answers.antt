use mathlib.Core.Path.{refl, sym, ap, ◌∙◌}
use Prim.Native.Nat.{◌+◌}
use native.Mathlib.Omega.{arith}
use Rattle.coefficients.specs.Scaling.{scale_of}
use Rattle.coefficients.specs.Values.{index_of}
use Rattle.coefficients.specs.Portions.{Reads}
use Rattle.coefficients.specs.declared.reading.Cursor.{Cursor}
use Rattle.coefficients.proofs.PortionsLaws.{refused-never}
use Rattle.rectangles.proofs.AreasLaws.{inside-small, inside-same, value-index-inside}
use Rattle.rectangles.proofs.PortionsLaws.{moved, moved-sound, SoFar, so-far-none, run-ready, so-far-on, reads_over, reads_short}
use Rattle.rectangles.proofs.read_values.Goals as goal
use Rattle.rectangles.proofs.read_values.Goals.{After-struct_known-in-loop-i-1}

pub overflow_mul-total : goal.overflow_mul-total
overflow_mul-total c = omega (arith, inside-small c.requires.0)

pub loop-i-init : goal.loop-i-init
loop-i-init c =
    (refl, so-far-none _ _ _ _ _ _ c.requires.1 c.requires.2)

pub layout_of-layout-requires : goal.layout_of-layout-requires
layout_of-layout-requires c =
    let inside = c.requires.0 in
    (inside.wide, inside.narrow, inside.tall, omega arith, omega (arith, value-index-inside _ _ c.loop-i.i inside (omega arith)))

pub read_run-part-requires : goal.read_run-part-requires
read_run-part-requires c = (
  run-ready _ _ _ c.layout_of-layout.ensures _ (inside-same c.loop-i.invariant.1.same_length c.requires.0) c.loop-i.invariant.1.clear,
  rw c.loop-i.invariant.0 (moved-sound _ _ (c.loop-i.invariant.1.before_end _ refl) c.requires.2),
)

pub overflow_add-i : goal.overflow_add-i
overflow_add-i c =
    omega (arith, c.layout_of-layout.ensures.few, c.read_run-part.ensures.some.0, inside-small c.requires.0)

-- what the run read, of the data that the cursor has
reads-run : (c : After-struct_known-in-loop-i-1) →
    let args = c.args in
    Reads args.bytes.now (moved args.cursor c.loop-i.next.bit) (scale_of args.decoder.q) (index_of c.layout_of-layout.result) c.loop-i.i c.loop-i.plane c.read_run-part.result c.read_run-part.new.plane
reads-run c = rw c.loop-i.invariant.0 at c.read_run-part.ensures.read

-- so the run is a step
step : (c : After-struct_known-in-loop-i-1) →
    let args = c.args in
    SoFar args.bytes.now args.cursor (scale_of args.decoder.q) args.area args.from args.plane.now c.read_run-part.result.progress (c.loop-i.i + c.read_run-part.result.count) c.read_run-part.new.plane
step c =
    so-far-on c.args.area c.loop-i.i _ c.layout_of-layout.ensures _ _ _ _ _ _ _ (reads-run c) c.read_run-part.ensures.some.0 _ _ c.requires.0.wide c.loop-i.invariant.1 c.read_run-part.auto.plane

pub shape_of-plane-in_default : goal.shape_of-plane-in_default
shape_of-plane-in_default c = (step (goal.at.shape_of-plane-in_default c).After-struct_known-in-loop-i-1).same_length

pub returns-in_default : goal.returns-in_default
returns-in_default c = reads_over _ _ _ _ _ _ _ _ _ (step (goal.at.returns-in_default c).After-struct_known-in-loop-i-1) (λ next e. refused-never _ _ _ c.in_default.is e)

pub shape_of-plane-then-part : goal.shape_of-plane-then-part
shape_of-plane-then-part c = (step (goal.at.shape_of-plane-then-part c).After-struct_known-in-loop-i-1).same_length

pub returns-then-part : goal.returns-then-part
returns-then-part c =
    let read = reads-run (goal.at.returns-then-part c).After-struct_known-in-loop-i-1 in
    reads_short _ _ _ _ _ _ _ _ _ (step (goal.at.returns-then-part c).After-struct_known-in-loop-i-1) (read.close_to_end c.if-part.true) (λ e. sym c.if-part.true ∙ read.full e)

pub loop-i-smaller : goal.loop-i-smaller
loop-i-smaller c =
    let covers = c.layout_of-layout.ensures in
    omega (arith, c.read_run-part.ensures.some.1 _ c.in-Ok.is c.if-part.false, covers.some)

pub loop-i-preserved : goal.loop-i-preserved
loop-i-preserved c =
    let bit = c.in-Ok.bit in
    (ap (λ (n : Cursor). moved n bit) c.loop-i.invariant.0, rw c.in-Ok.is at (step (goal.at.loop-i-preserved c).After-struct_known-in-loop-i-1))

pub shape_of-plane : goal.shape_of-plane
shape_of-plane c = c.loop-i.invariant.1.same_length

pub returns : goal.returns
returns c = reads_over _ _ _ _ _ _ _ _ _ c.loop-i.invariant.1 (λ next e. omega arith)
