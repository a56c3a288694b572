use Prim.Native.Nat.{◌≤◌}
use native.Mathlib.Omega.{arith}
use lib.IntN.{pos}
use lib.ListN.{get_or}
use mir.Syntax.{w32}
use Rattle.base.proofs.RangeLaws.{back}
use Rattle.coefficients.proofs.BatchesLaws.{first-most, taken_none, taken-code}
use Rattle.coefficients.proofs.values.read_codes.Goals as goal
use Rattle.coefficients.proofs.values.read_codes.Goals.{After-first_value}

pub loop-i-init : goal.loop-i-init
loop-i-init c = (omega arith, c.requires.1.counted, taken_none _ _ _ _ _ c.requires.1)

pub shape_of-plane-then-taken-eq0 : goal.shape_of-plane-then-taken-eq0
shape_of-plane-then-taken-eq0 c = c.loop-i.invariant.2.same

-- the bits of the next value are few
bits_most : (c : After-first_value) → c.first_bits-taken.result ≤ 8
bits_most c =
    first-most c.look_up-lookup.result _ 1 _ 8 c.first_bits-taken.ensures (omega arith) c.look_up-lookup.ensures.bits_most

-- the bits taken so far, where a value is left
few : (c : After-first_value) → c.loop-i.bits ≤ 48
few c =
    omega (arith, c.requires.0, c.loop-i.invariant.0, c.loop-i-test.true)

pub loop-i-preserved : goal.loop-i-preserved
loop-i-preserved c =
    let below = c.loop-i-test.true in (
      omega (arith, c.loop-i.invariant.0, c.loop-i.invariant.2.started, bits_most (goal.at.loop-i-preserved c).After-first_value),
      omega (arith, below),
      rw (back w32 (get_or c.args.decoder.small.now c.first_value.result (pos 0)) c.plane-1.given, c.index_at-index.ensures)
          (taken-code _ _ _ _ _ c.requires.1 _ _ _ _ _ (few (goal.at.loop-i-preserved c).After-first_value) c.loop-i.invariant.2 c.look_up-lookup.ensures _ _ c.first_value.ensures
          c.first_bits-taken.ensures c.if-taken-eq0.false below),
    )

pub shape_of-plane : goal.shape_of-plane
shape_of-plane c = c.loop-i.invariant.2.same
