use Prim.Native.Nat.{◌+◌, ◌-◌, ◌<◌}
use native.Mathlib.Omega.{arith}
use lib.IntN.{pos}
use lib.ListN.{get_or}
use mir.Syntax.{w32}
use Rattle.base.proofs.RangeLaws.{back}
use Rattle.lookups.proofs.LookupsLaws.{lookup-count}
use Rattle.coefficients.proofs.BatchesLaws.{taken_none, taken-lookup, taken-zeros}
use Rattle.coefficients.proofs.values.read_lookups.Goals as goal

pub loop-init : goal.loop-init
loop-init g c = (omega arith, omega arith, c.requires.counted, taken_none _ _ _ _ _ c.requires)

pub returns-then-count-to : goal.returns-then-count-to
returns-then-count-to g c = (
  omega (arith, c.requires.counted),
  taken-zeros _ _ _ _ _ c.requires _ _ _ _ c.look_up-lookup.result (omega arith) c.loop.invariant.3 c.look_up-lookup.ensures
      (c.count-count.result - c.loop.i) _ (omega arith) (omega arith) (omega arith),
)

pub returns-then-lookup-eq0 : goal.returns-then-lookup-eq0
returns-then-lookup-eq0 g c =
    (omega arith, c.loop.invariant.3.reads)

pub index_at-index-requires : goal.index_at-index-requires
index_at-index-requires g c =
    let ready = c.requires in
    (omega (arith, ready.few), ready.low, omega (arith, ready.inside (c.loop.i + c.look_up-lookup.result.zeros) (omega arith)))

pub bounds-plane-index : goal.bounds-plane-index
bounds-plane-index g c =
    rw (c.index_at-index.ensures, c.loop.invariant.3.same) (c.requires.inside _ (omega arith))

pub loop-preserved : goal.loop-preserved
loop-preserved g c =
    let fits : c.loop.i + c.look_up-lookup.result.zeros < c.count-count.result = omega arith in (
      omega arith,
      omega arith,
      omega (arith, lookup-count _ _ c.look_up-lookup.ensures),
      rw (back w32 (get_or c.args.decoder.small.now c.look_up-lookup.result.value (pos 0)) c.plane-1.given, c.index_at-index.ensures)
          (taken-lookup _ _ _ _ _ c.requires _ _ _ _ _ (omega arith) c.loop.invariant.3 c.look_up-lookup.ensures (omega arith)),
    )

pub returns : goal.returns
returns g c = (omega arith, c.loop.invariant.3.reads)
