use Prim.Native.Nat.{◌+◌, ◌-◌, ◌≤◌, ◌<◌}
use native.Mathlib.Omega.{arith}
use lib.IntN.{pos}
use lib.ListN.{get_or}
use mir.Syntax.{w32}
use Rattle.base.proofs.RangeLaws.{back}
use Rattle.lookups.proofs.LookupsLaws.{lookup-count}
use Rattle.coefficients.proofs.BatchesLaws.{zeros-at-once, taken_none, taken-lookup}
use Rattle.coefficients.proofs.values.read_many.Goals as goal
use Rattle.coefficients.proofs.values.read_many.Goals.{Else-next-eq0, At-loop}

pub returns-then-starts_with_ones : goal.returns-then-starts_with_ones
returns-then-starts_with_ones c =
    zeros-at-once _ _ _ _ _ c.requires.1 32 _ (omega arith) (omega (arith, c.requires.0)) c.starts_with_ones.ensures c.if-starts_with_ones.true

pub loop-init : goal.loop-init
loop-init c = (omega arith, omega arith, omega arith, taken_none _ _ _ _ _ c.requires.1)

pub shape_of-plane-then-next-eq0 : goal.shape_of-plane-then-next-eq0
shape_of-plane-then-next-eq0 c = c.loop.invariant.3.same

-- the values taken so far are before the layout's end
within : (c : At-loop) → c.args.from + (c.loop.i - c.args.from) ≤ c.args.layout.count
within c = omega (arith, c.requires.0, c.loop.invariant.0, c.loop.invariant.2, c.loop.invariant.3.started)

pub returns-then-next-eq0 : goal.returns-then-next-eq0
returns-then-next-eq0 c =
    (within (goal.at.returns-then-next-eq0 c).At-loop, c.loop.invariant.3.reads)

-- and so is that of the next lookup
below : (c : Else-next-eq0) →
    c.loop.i + c.look_up-next.result.zeros < c.args.layout.count
below c =
    omega (arith, c.requires.0, c.loop.invariant.2, c.loop-test, c.look_up-next.ensures.zeros_most)

pub loop-preserved : goal.loop-preserved
loop-preserved c = (
  omega (arith, c.loop-test),
  omega (arith, c.loop.invariant.1, c.look_up-next.ensures.bits_most),
  omega (arith, c.loop.invariant.2, lookup-count _ _ c.look_up-next.ensures, c.look_up-next.ensures.zeros_most),
  rw (back w32 (get_or c.args.decoder.small.now c.look_up-next.result.value (pos 0)) c.plane-1.given, c.index_at-index.ensures)
      (taken-lookup _ _ _ _ _ c.requires.1 _ _ _ _ _ (omega (arith, c.loop.invariant.1, c.loop-test)) c.loop.invariant.3 c.look_up-next.ensures (below (goal.at.loop-preserved c).Else-next-eq0)),
)

pub shape_of-plane : goal.shape_of-plane
shape_of-plane c = c.loop.invariant.3.same

pub returns : goal.returns
returns c = (within (goal.at.returns c).At-loop, c.loop.invariant.3.reads)
