-- `rectangles::layout_of` meets its contract by the laws of layouts: the only row, short rows, or one row.
use mathlib.Core.Path.{refl}
use Prim.Native.Nat.{◌+◌, ◌-◌, ◌*◌, ◌/◌, ◌%◌, ◌≤◌, ◌<◌, ◌^◌}
use native.Mathlib.Nat.{mul-le-mul, div-le_self}
use native.Mathlib.Omega.{arith}
use Rattle.rectangles.specs.Areas.{size_of, value_index}
use Rattle.rectangles.proofs.AreasLaws.{InArea, in_area, raster-index}
use Rattle.rectangles.proofs.LayoutsLaws.{covers-all, covers-row, covers-only}
use Rattle.rectangles.proofs.layout_of.Goals as goal
use Rattle.rectangles.proofs.layout_of.Goals.{Start}

-- the value is one of the rectangle
here : (c : Start) → InArea c.args.area.width c.args.area.height c.args.i
here c = in_area _ _ _ c.requires.3

small : (c : Start) → size_of c.args.area ≤ 4096 * 4096
small c =
    let narrow : c.args.area.width ≤ 4096 = omega (arith, c.requires.0, c.requires.1) in
    mul-le-mul c.requires.2 narrow

pub returns-then-area-eq1 : goal.returns-then-area-eq1
returns-then-area-eq1 c =
    covers-only _ c.requires.0 _ c.requires.3 (omega (arith, c.if-area-eq1.true))

pub overflow_mul-result : goal.overflow_mul-result
overflow_mul-result c = omega (arith, small (goal.at.overflow_mul-result c).Start)

pub nonzero_div-result : goal.nonzero_div-result
nonzero_div-result c = omega (arith, (here (goal.at.nonzero_div-result c).Start).some)

pub overflow_add-result : goal.overflow_add-result
overflow_add-result c = omega (arith, div-le_self 16777216 c.args.area.width)

pub returns-then-area-le64 : goal.returns-then-area-le64
returns-then-area-le64 c =
    covers-all _ c.requires.0 _ c.requires.3 (omega (arith, c.if-area-le64.true)) c.requires.2

-- its row, and the gaps before it
row_small : (c : Start) → c.args.i / c.args.area.width + 1 ≤ 4096
row_small c = omega (arith, (here c).row_below, c.requires.2)

pub overflow_mul-result-2 : goal.overflow_mul-result-2
overflow_mul-result-2 c =
    let row : c.args.i / c.args.area.width ≤ 4096 = omega (arith, row_small (goal.at.overflow_mul-result-2 c).Start) in
    let gap : c.args.area.stride - c.args.area.width ≤ 4096 = omega (arith, c.requires.1) in
    omega (arith, mul-le-mul row gap)

-- the value's entry has room
room : (c : Start) → c.args.area.start + c.args.i / c.args.area.width * c.args.area.stride + c.args.i % c.args.area.width < 2 ^ 64
unfolding value_index
room c = c.requires.4

pub overflow_add-result-2 : goal.overflow_add-result-2
overflow_add-result-2 c =
    omega (arith, room (goal.at.overflow_add-result-2 c).Start, raster-index c.args.area.width c.args.area.stride c.args.i c.requires.0)

pub overflow_add-result-3 : goal.overflow_add-result-3
overflow_add-result-3 c = omega (arith, row_small (goal.at.overflow_add-result-3 c).Start)

pub overflow_mul-result-3 : goal.overflow_mul-result-3
overflow_mul-result-3 c =
    let narrow : c.args.area.width ≤ 4096 = omega (arith, c.requires.0, c.requires.1) in
    omega (arith, mul-le-mul (row_small (goal.at.overflow_mul-result-3 c).Start) narrow)

pub returns : goal.returns
returns c =
    covers-row _ c.requires.0 _ c.requires.3 _ refl
