use mathlib.Core.Path.{◌≡◌, refl, sym}
use Prim.Native.Nat.{◌*◌, min}
use native.Mathlib.Omega.{arith}
use lib.ListN.{length}
use Rattle.std.specs.Prelude.{Err}
use Rattle.std.proofs.lemmas.Result.{err_from_is_err_and}
use Rattle.coefficients.proofs.ScalingLaws.{scaled-zero}
use Rattle.runs.proofs.RunsLaws.{side-ready, up-to-none, up-to-read, up-to-clear, up-to-past, up-to-refused}
use Rattle.runs.proofs.read_run.Goals as goal
use Rattle.runs.proofs.read_run.Goals.{After-min-end}

pub loop-i-init : goal.loop-i-init
loop-i-init c = (omega arith, c.requires.1.before_end, up-to-none _ _ _ _ _ _)

-- where the data end
end-is : (c : After-min-end) → c.min-end.result ≡ min c.args.span.end (8 * length c.args.bytes.now)
end-is c = omega (arith, c.requires.1.small)

pub returns-then-end-bit-clause-read : goal.returns-then-end-bit-clause-read
returns-then-end-bit-clause-read c =
    let inv = c.loop-i.invariant in
    sym (up-to-past _ _ _ _ _ _ _ _ _ inv.2 _ c.requires.0 inv.0 (scaled-zero _ _ 0 refl) (omega (arith, end-is (goal.at.returns-then-end-bit-clause-read c).After-min-end)))

pub returns-then-end-bit-clause-inside : goal.returns-then-end-bit-clause-inside
returns-then-end-bit-clause-inside c next e =
    let there : c.loop-i.bit ≡ next = cc in
    omega arith

pub read_some-part-requires : goal.read_some-part-requires
read_some-part-requires c =
    let inv = c.loop-i.invariant in
    let end = end-is (goal.at.read_some-part-requires c).After-min-end in (
      omega arith,
      side-ready _ _ _ _ c.requires.0 c.loop-i.auto.run inv.0 (up-to-clear _ _ _ _ _ _ _ _ _ inv.2 _ c.requires.0),
      record { is_stated = refl; before_end = omega arith; there = omega arith; small = omega (arith, c.requires.1.small) },
    )

pub returns-in_err-bit-clause-read : goal.returns-in_err-bit-clause-read
returns-in_err-bit-clause-read c =
    let part = c.read_some-part in
    let end = end-is (goal.at.returns-in_err-bit-clause-read c).After-min-end in
    let refused = err_from_is_err_and c.from_residual.result c.from_residual.ensures.1 in
    let told : part.result.progress ≡ Err refused.0 = rw refused.2 c.in_err-bit.was in
    rw refused.1
    (sym (up-to-refused _ _ _ _ _ _ _ c.args.n _ _ _
    (rw told at (up-to-read _ _ _ _ _ _ _ _ _ c.loop-i.invariant.2 c.args.n _ part.result _ end part.ensures.read)) part.ensures.some.1))

pub loop-i-preserved : goal.loop-i-preserved
loop-i-preserved c =
    let part = c.read_some-part in
    let told = c.in_ok-bit.was in
    let end = end-is (goal.at.loop-i-preserved c).After-min-end in (
      part.ensures.some.1,
      omega (arith, part.ensures.read.before_end _ told),
      rw told at (up-to-read _ _ _ _ _ _ _ _ _ c.loop-i.invariant.2 c.args.n _ part.result _ end part.ensures.read),
    )

pub returns-clause-read : goal.returns-clause-read
returns-clause-read c =
    let all : c.loop-i.i ≡ c.args.n = omega arith in
    sym (rw all at c.loop-i.invariant.2)

pub returns-clause-inside : goal.returns-clause-inside
returns-clause-inside c next e =
    let there : c.loop-i.bit ≡ next = cc in
    omega arith
