use mathlib.Core.Logic.{◌≢◌}
use mathlib.Core.Path.{◌≡◌, refl, sym, ◌∙◌}
use Prim.Native.Nat.{◌+◌, ◌-◌, ◌^◌, ◌≤◌}
use native.Mathlib.Omega.{arith}
use lib.Pow.{pow_mono}
use Rattle.std.proofs.lemmas.Result.{err_from_is_err_and}
use Rattle.exp_golomb.specs.Codes.{unsigned}
use Rattle.exp_golomb.proofs.BitsLaws.{bit-taken}
use Rattle.exp_golomb.proofs.CodesLaws.{needed-taken, needed-absent, code-missing, code-ends, code-too-long, code-cut, code-goes-on, value_doubled}
use Rattle.exp_golomb.proofs.codes.read_unsigned.Goals as goal
use Rattle.exp_golomb.proofs.codes.read_unsigned.Goals.{In_ok-data}

pub loop-init : goal.loop-init
unfolding unsigned
loop-init c = (omega arith, omega arith, refl)

pub returns-in_err-last : goal.returns-in_err-last
returns-in_err-last c =
    let p = err_from_is_err_and c.from_residual.result c.from_residual.ensures.1 in
    let m = needed-absent _ _ _ c.in_err-last.ensures in
    rw (p.1, p.2, ← c.loop.invariant.2, code-missing _ _ _ _ _ _ m.0) m.1

pub returns-then-last-eq1 : goal.returns-then-last-eq1
returns-then-last-eq1 c =
    rw (← c.loop.invariant.2, code-ends _ _ _ _ _ _ _ _ (needed-taken _ _ _ c.in_ok-last.ensures) c.if-last-eq1.true) refl

pub returns-in_err-data : goal.returns-in_err-data
returns-in_err-data c =
    let p = err_from_is_err_and c.from_residual-in_err-data.result c.from_residual-in_err-data.ensures.1 in
    let some : 31 - c.loop.counter ≢ 0 = λ none. omega arith in
    let m = needed-absent _ _ _ c.in_err-data.ensures in
    rw (
      p.1,
      p.2,
      ← c.loop.invariant.2,
      code-cut _ _ _ _ _ _ _ _ (needed-taken _ _ _ c.in_ok-last.ensures) c.if-last-eq1.false some m.0,
    )
    m.1

-- the data bit is 0 or 1, and the value has room for it
data-bit : (c : In_ok-data) → c.in_ok-data.data.bit ≤ 1
data-bit c = (bit-taken _ _ _ _ _ _ (needed-taken _ _ _ c.in_ok-data.ensures)).small

pub overflow_add-v : goal.overflow_add-v
overflow_add-v c =
    let room : 2 ^ (c.loop.counter + 1) ≤ 2 ^ 32 = pow_mono {i = c.loop.counter + 1} {j = 32} (omega arith) in
    omega (arith, c.loop.invariant.1, data-bit (goal.at.overflow_add-v c).In_ok-data)

pub loop-preserved : goal.loop-preserved
loop-preserved c =
    let less : 31 - c.loop.counter - 1 ≡ 31 - (c.loop.counter + 1) = omega arith in
    let some : 31 - c.loop.counter ≢ 0 = λ none. omega arith in (
      omega (arith, c.loop.invariant.0),
      value_doubled _ _ c.loop.counter (data-bit (goal.at.loop-preserved c).In_ok-data) c.loop.invariant.1,
      rw (← less)
          (sym (code-goes-on _ _ _ _ _ _ _ _ _ _ (needed-taken _ _ _ c.in_ok-last.ensures) c.if-last-eq1.false some (needed-taken _ _ _ c.in_ok-data.ensures))
          ∙ c.loop.invariant.2),
    )

pub returns-in_err-last-2 : goal.returns-in_err-last-2
returns-in_err-last-2 c =
    let p = err_from_is_err_and c.from_residual-in_err-last-2.result c.from_residual-in_err-last-2.ensures.1 in
    let m = needed-absent _ _ _ c.in_err-last-2.ensures in
    rw (p.1, p.2, ← c.loop.invariant.2, code-missing _ _ _ _ _ _ m.0) m.1

pub returns-then-last-eq1-2 : goal.returns-then-last-eq1-2
returns-then-last-eq1-2 c =
    rw (← c.loop.invariant.2, code-ends _ _ _ _ _ _ _ _ (needed-taken _ _ _ c.in_ok-last-2.ensures) c.if-last-eq1-2.true) refl

pub returns : goal.returns
returns c =
    let none : 31 - c.loop.counter ≡ 0 = omega arith in
    rw (← c.loop.invariant.2, code-too-long _ _ _ _ _ _ _ _ (needed-taken _ _ _ c.in_ok-last-2.ensures) c.if-last-eq1-2.false none) refl
