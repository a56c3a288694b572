-- `slices::areas::Slice::area_at` meets its contract: it computes the edges of the slice's rectangle, which lie in the subband.
use native.Mathlib.Omega.{arith}
use Rattle.codeblocks.proofs.BlocksLaws.{BlockRoom}
use Rattle.slices.proofs.AreasLaws.{standing-room, band-small, area-room, area-is}
use Rattle.slices.proofs.areas.Slice.area_at.Goals as goal
use Rattle.slices.proofs.areas.Slice.area_at.Goals.{After-part_start_by-bottom}

pub part_start_by-left-requires : goal.part_start_by-left-requires
part_start_by-left-requires c =
    let room = standing-room c.args.self in
    ((band-small c.args.self _ c.requires _ c.subband_at-b.ensures).0, room.across-small, omega (arith, room.column-most))

pub part_start_by-right-requires : goal.part_start_by-right-requires
part_start_by-right-requires c =
    let room = standing-room c.args.self in
    ((band-small c.args.self _ c.requires _ c.subband_at-b.ensures).0, room.across-small, omega (arith, room.column-most))

pub part_start_by-top-requires : goal.part_start_by-top-requires
part_start_by-top-requires c =
    let room = standing-room c.args.self in
    ((band-small c.args.self _ c.requires _ c.subband_at-b.ensures).1, room.down-small, omega (arith, room.row-most))

pub part_start_by-bottom-requires : goal.part_start_by-bottom-requires
part_start_by-bottom-requires c =
    let room = standing-room c.args.self in
    ((band-small c.args.self _ c.requires _ c.subband_at-b.ensures).1, room.down-small, omega (arith, room.row-most))

-- its edges are the rectangle's
between : (c : After-part_start_by-bottom) →
    let args = c.args in
    BlockRoom
    (record { stride = args.self.grid.width; subband = c.subband_at-b.result; across = args.self.grid.across; down = args.self.grid.down })
    c.part_start_by-left.result c.part_start_by-right.result c.part_start_by-top.result c.part_start_by-bottom.result
between c =
    area-room c.args.self _ c.requires _ c.subband_at-b.ensures _ _ _ _
    c.part_start_by-left.ensures c.part_start_by-right.ensures
    c.part_start_by-top.ensures c.part_start_by-bottom.ensures

pub overflow_add-result : goal.overflow_add-result
overflow_add-result c =
    let r = between (goal.at.overflow_add-result c).After-part_start_by-bottom in
    omega (arith, r.tall, r.downward)

pub overflow_mul-result : goal.overflow_mul-result
overflow_mul-result c = omega (arith, (between (goal.at.overflow_mul-result c).After-part_start_by-bottom).small)

pub overflow_add-result-2 : goal.overflow_add-result-2
overflow_add-result-2 c =
    let r = between (goal.at.overflow_add-result-2 c).After-part_start_by-bottom in
    omega (arith, r.wide, r.forward)

pub overflow_add-result-3 : goal.overflow_add-result-3
overflow_add-result-3 c =
    let r = between (goal.at.overflow_add-result-3 c).After-part_start_by-bottom in
    omega (arith, r.small, r.wide, r.forward)

pub overflow_sub-result : goal.overflow_sub-result
overflow_sub-result c = (between (goal.at.overflow_sub-result c).After-part_start_by-bottom).forward

pub overflow_sub-result-2 : goal.overflow_sub-result-2
overflow_sub-result-2 c = (between (goal.at.overflow_sub-result-2 c).After-part_start_by-bottom).downward

pub returns : goal.returns
returns c =
    area-is c.args.self _ c.requires _ c.subband_at-b.ensures _ _ _ _
    c.part_start_by-left.ensures c.part_start_by-right.ensures
    c.part_start_by-top.ensures c.part_start_by-bottom.ensures
