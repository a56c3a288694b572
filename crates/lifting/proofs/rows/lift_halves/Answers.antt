-- `lifting::rows::lift_halves` meets its contract: the half of the elements that the step changes is lifted by the other, whose ends are repeated, as
-- the indices that are clamped say.
use mathlib.Core.Path.{◌≡◌}
use mathlib.Core.Bool.{not}
use mathlib.Core.List.{List}
use Prim.Native.Nat.{◌+◌, ◌≤◌}
use native.Mathlib.Omega.{arith}
use lib.IntN.{ℤ}
use lib.ListN.{length}
use Rattle.std.specs.Prelude.{is_ok}
use Rattle.lifting.specs.Layout.{base_of}
use Rattle.lifting.specs.Lines.{LineInside}
use Rattle.lifting.proofs.LineBoundsLaws.{HalfRead, half-reads, half-old, half-lifted, halves-before, halves-done}
use Rattle.lifting.proofs.LayoutLaws.{base-most, bases-apart}
use Rattle.lifting.proofs.rows.lift_halves.Goals as goal
use Rattle.lifting.proofs.rows.lift_halves.Goals.{After-base_of-source, After-base_of-target, After-line_starts-starts}

-- where the halves stand
source-most : (c : After-base_of-source) → c.base_of-source.result ≤ 2056
source-most c = rw c.base_of-source.ensures (base-most (not c.args.step.even))

target-most : (c : After-base_of-target) → c.base_of-target.result ≤ 2056
target-most c = rw c.base_of-target.ensures (base-most c.args.step.even)

pub overflow_add-target : goal.overflow_add-target
overflow_add-target c = omega (arith, target-most (goal.at.overflow_add-target c).After-base_of-target)

pub extend-requires : goal.extend-requires
extend-requires c =
    (source-most (goal.at.extend-requires c).After-base_of-source, c.requires.le_half.0, c.requires.le_half.1)

pub overflow_add-source : goal.overflow_add-source
overflow_add-source c = omega (arith, source-most (goal.at.overflow_add-source c).After-base_of-source, c.requires.le_half.2.in_buffer)

pub line_starts-starts-requires : goal.line_starts-starts-requires
line_starts-starts-requires c = omega (arith, source-most (goal.at.line_starts-starts-requires c).After-base_of-source, c.requires.le_half.2.in_buffer)

-- the buffer with the ends of the half that is read repeated
abbrev extended : After-line_starts-starts → List ℤ
extended c = c.extend.new.halves

-- what is known before the step
ready :
    (c : After-line_starts-starts)
    → let args = c.args in
    HalfRead args.step args.half args.bounds (base_of args.step.even) (base_of (not args.step.even)) args.halves.now (extended c) c.line_starts-starts.result
ready c =
    let source = c.base_of-source.ensures in
    let ends = c.extend.ensures in
    let within = halves-before c.args.step c.args.half c.args.bounds c.args.halves.now c.requires.halves_within in
    record {
      formed = c.requires.le_half.2;
      some = c.requires.le_half.0;
      apart = bases-apart c.args.step.even c.args.half c.requires.le_half.1;
      ends = rw source at ends.repeated;
      rest = rw source at ends.kept;
      placed = rw source at c.line_starts-starts.ensures;
      targets = within.0;
      sources = within.1;
    }

-- the half can be lifted, and keeps to the bounds
line-inside :
    (c : After-line_starts-starts) → length (extended c) ≡ 4112
    → let args = c.args in
    LineInside args.step c.line_starts-starts.result (extended c) (base_of args.step.even + 4) args.half
line-inside c long =
    let formed = c.requires.le_half.2 in
    let even = c.args.step.even in
    let starts = (ready c).placed in
    record {
      formed = formed;
      width_most = omega (arith, c.requires.le_half.1);
      inside = omega (arith, long, c.requires.le_half.1, base-most even);
      sources_inside = λ t h. rw (starts t (omega (arith, formed.few_taps))) (omega (arith, long, formed.in_buffer, c.requires.le_half.1, base-most (not even)));
      apart = λ t x k h hx hk.
          rw (starts t (omega (arith, formed.few_taps)))
          (λ e. (ready c).apart (4 + k) (c.args.step.lead + t + x) (omega arith) (omega (arith, formed.in_buffer)) (omega (arith, e)));
    }

pub lift-requires : goal.lift-requires
lift-requires c =
    let at = (goal.at.lift-requires c).After-line_starts-starts in
    let long : length (extended at) ≡ 4112 = omega arith in
    record {
      line_inside = rw c.base_of-target.ensures (line-inside at long, record { sources = half-reads (ready at); target = half-old (ready at) });
      bounds_fit = (c.requires.halves_within.0, c.requires.halves_within.1);
    }

pub returns : goal.returns
returns c =
    let at = (goal.at.returns c).After-line_starts-starts in
    let long : length (extended at) ≡ 4112 = omega arith in
    let all =
    halves-done _ _ _ _ _ _ c.requires.halves_within
    (half-lifted (ready at) (is_ok c.lift.result) _ (line-inside at long).inside (rw c.base_of-target.ensures at c.lift.ensures))
    in
    record { told = all.0; done = all.1.0; bounded = all.1.1 }
