use mathlib.Core.Path.{refl, sym, ◌∙◌}
use mathlib.Core.Bool.{true, false}
use Prim.Native.Nat.{◌+◌, ◌-◌}
use native.Mathlib.Omega.{arith}
use Rattle.std.proofs.lemmas.Bool.{true≢false}
use Rattle.coefficients.proofs.PortionsLaws.{refused-never, sofar-none, sofar-adds, portion-ends, sound-again, ready-again}
use Rattle.coefficients.proofs.values.read_run.Goals as goal

pub loop-i-init : goal.loop-i-init
loop-i-init c =
    (omega arith, c.requires.0.counted, refl, record { end_same = refl; stated-same = refl; origin-same = refl }, c.requires.1.before_end, sofar-none _ _ _ _ _ _ _ (omega arith))

pub read_some-part-requires : goal.read_some-part-requires
read_some-part-requires c =
    let inv = c.loop-i.invariant in (
      omega (arith, c.loop-i-test.true),
      ready-again _ _ _ c.args.layout _ _ c.requires.0 _ _ _ inv.0 inv.1 inv.2 inv.5,
      sound-again _ _ inv.3 inv.4 c.requires.1,
    )

pub shape_of-plane-in_default : goal.shape_of-plane-in_default
shape_of-plane-in_default c = c.read_some-part.auto.plane ∙ c.loop-i.invariant.2

pub returns-in_default : goal.returns-in_default
returns-in_default c =
    let inv = c.loop-i.invariant in record {
      read = portion-ends _ _ _ _ _ _ _ inv.3 c.loop-i.i (c.loop-i.i - c.args.from) _ _ inv.0 (omega (arith, inv.0)) inv.5 c.read_some-part.result _ c.read_some-part.ensures.read (omega (arith, inv.0)) false
          (λ e. absurd (true≢false (sym e))) (λ e. refl);
      some = (omega (arith, c.read_some-part.ensures.some.0, inv.0), λ next e f. refused-never _ _ _ c.in_default.is e);
    }

pub shape_of-plane-then-part : goal.shape_of-plane-then-part
shape_of-plane-then-part c = c.read_some-part.auto.plane ∙ c.loop-i.invariant.2

pub returns-then-part : goal.returns-then-part
returns-then-part c =
    let inv = c.loop-i.invariant in record {
      read =
          portion-ends _ _ _ _ _ _ _ inv.3 c.loop-i.i (c.loop-i.i - c.args.from) _ _ inv.0 (omega (arith, inv.0)) inv.5 c.read_some-part.result _ c.read_some-part.ensures.read (omega (arith, inv.0)) true
          (λ e. c.if-part.true) (λ e. sym c.if-part.true ∙ c.read_some-part.ensures.read.full (inv.3.stated-same ∙ e));
      some = (omega (arith, c.read_some-part.ensures.some.0, inv.0), λ next e f. absurd (true≢false f));
    }

pub loop-i-preserved : goal.loop-i-preserved
loop-i-preserved c =
    let inv = c.loop-i.invariant in
    let told = c.in-Ok.is in (
      omega (arith, inv.0),
      omega (arith, c.read_some-part.ensures.some.0),
      c.read_some-part.auto.plane ∙ inv.2,
      record { end_same = inv.3.end_same; stated-same = inv.3.stated-same; origin-same = inv.3.origin-same },
      omega (arith, c.read_some-part.ensures.read.before_end _ told, inv.3.end_same),
      λ whole end begins.
          rw told at (sofar-adds _ _ _ _ _ _ _ inv.3 c.loop-i.i (c.loop-i.i - c.args.from) (c.loop-i.i + c.read_some-part.result.count - c.args.from) _ inv.0 (omega (arith, inv.0)) inv.5 c.read_some-part.result _ c.read_some-part.ensures.read
          (omega (arith, inv.0)) whole end begins),
    )

pub shape_of-plane : goal.shape_of-plane
shape_of-plane c = c.loop-i.invariant.2
