-- `lifting::columns::source_start` meets its contract: the row that is read is one of the picture's.
use Prim.Native.Nat.{◌*◌, ◌<◌}
use native.Mathlib.Omega.{arith}
use Rattle.base.proofs.Grids.{row_room}
use Rattle.filters.proofs.PicturesLaws.{source-below}
use Rattle.lifting.proofs.columns.source_start.Goals as goal

pub overflow_mul-result : goal.overflow_mul-result
overflow_mul-result c =
    let row : c.source_row.result < 2 * c.args.frame.band_rows = rw c.source_row.ensures (source-below _ _ _ (omega arith)) in
    omega (arith, row_room c.args.frame.stride c.source_row.result (2 * c.args.frame.band_rows) row)
