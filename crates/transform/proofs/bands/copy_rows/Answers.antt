use Prim.Native.Nat.{◌+◌, ◌*◌, ◌≤◌}
use native.Mathlib.Omega.{arith}
use lib.IntN.{pos}
use lib.ListN.{length, get_or}
use Rattle.base.proofs.Grids.{row-end, rows-stored}
use Rattle.filters.specs.Planes.{picture_of}
use Rattle.transform.proofs.bands.copy_rows.Goals as goal
use Rattle.transform.proofs.bands.copy_rows.Goals.{In-loop-row}

-- the rows that a turn copies lie within their planes
to_end : (c : In-loop-row) → c.loop-row.row * c.args.to_stride + c.args.columns ≤ length c.args.to.now
to_end c =
    omega (arith, row-end c.loop-row.row c.args.rows c.args.to_stride c.args.columns c.loop-row-test.true c.requires.columns_le_to_stride.0, c.requires.columns_le_to_stride.1)

from_end : (c : In-loop-row) → c.loop-row.row * c.args.from_stride + c.args.columns ≤ length c.args.from.now
from_end c =
    omega (arith, row-end c.loop-row.row c.args.rows c.args.from_stride c.args.columns c.loop-row-test.true c.requires.columns_le_from_stride.0, c.requires.columns_le_from_stride.1)

pub overflow_mul-to_row : goal.overflow_mul-to_row
overflow_mul-to_row c = omega (arith, to_end (goal.at.overflow_mul-to_row c).In-loop-row)

pub overflow_mul-from_row : goal.overflow_mul-from_row
overflow_mul-from_row c = omega (arith, from_end (goal.at.overflow_mul-from_row c).In-loop-row)

pub copy-requires : goal.copy-requires
copy-requires c = (omega (arith, to_end (goal.at.copy-requires c).In-loop-row, c.loop-row.auto.to), from_end (goal.at.copy-requires c).In-loop-row)

pub loop-row-preserved : goal.loop-row-preserved
loop-row-preserved c =
    rw c.copy.ensures
    (rows-stored c.loop-row.to c.args.to_stride c.loop-row.row c.args.columns (λ r x. get_or c.args.from.now (r * c.args.from_stride + x) (pos 0)) (pos 0)
    c.requires.columns_le_to_stride.0 (omega (arith, to_end (goal.at.loop-row-preserved c).In-loop-row, c.loop-row.auto.to)) c.loop-row.invariant)

pub returns : goal.returns
unfolding picture_of
returns c = λ row column below inside. c.loop-row.invariant row column (omega arith) inside
