use mathlib.Core.Path.{refl}
use native.Mathlib.Omega.{arith}
use Rattle.slices.proofs.StoresLaws.{rows_none, rows_more, row_room, room-same, same_planes-then}
use Rattle.slices.proofs.stores.ThreePlanes.store_rows.Goals as goal

pub loop-y-init : goal.loop-y-init
loop-y-init c = (omega arith, ((refl, refl, refl), (refl, refl, refl)), rows_none _ _ _ _)

pub store_row-requires : goal.store_row-requires
store_row-requires c =
    rw c.values_of-values.ensures
    (room-same _ _ c.loop-y.invariant.1.1 _ _ _ _ _ (row_room c.args.holder c.args.area _ _ c.requires c.loop-y.y c.loop-y-test.true))

pub loop-y-preserved : goal.loop-y-preserved
loop-y-preserved c =
    let inv = c.loop-y.invariant in (
      omega (arith, c.loop-y-test.true),
      same_planes-then c.args.self.now c.loop-y.self c.store_row.new.self inv.1 c.store_row.ensures.same,
      rows_more c.args.holder c.args.area _ _ c.loop-y.y _ _ inv.2 (rw c.values_of-values.ensures at c.store_row.ensures.stored),
    )
