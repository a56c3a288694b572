-- `codeblocks::CodeblockGrid::block_at` meets its contract: it computes the codeblock's edges, which lie in the subband.
use native.Mathlib.Omega.{arith}
use Rattle.codeblocks.proofs.BlocksLaws.{BlockRoom, room, block-at-is}
use Rattle.codeblocks.proofs.CodeblockGrid.block_at.Goals as goal
use Rattle.codeblocks.proofs.CodeblockGrid.block_at.Goals.{After-part_start-bottom}

between : (c : After-part_start-bottom) →
    BlockRoom c.args.self
    c.part_start-left.result c.part_start-right.result
    c.part_start-top.result c.part_start-bottom.result
between c =
    room c.args.self c.args.m _ _ _ _
    c.part_start-left.ensures c.part_start-right.ensures
    c.part_start-top.ensures c.part_start-bottom.ensures
    c.requires.0 c.requires.1

pub overflow_add-area : goal.overflow_add-area
overflow_add-area c =
    let r = between (goal.at.overflow_add-area c).After-part_start-bottom in
    omega (arith, r.tall, r.downward)

pub overflow_mul-area : goal.overflow_mul-area
overflow_mul-area c = omega (arith, (between (goal.at.overflow_mul-area c).After-part_start-bottom).small)

pub overflow_add-area-2 : goal.overflow_add-area-2
overflow_add-area-2 c =
    let r = between (goal.at.overflow_add-area-2 c).After-part_start-bottom in
    omega (arith, r.wide, r.forward)

pub overflow_add-area-3 : goal.overflow_add-area-3
overflow_add-area-3 c =
    let r = between (goal.at.overflow_add-area-3 c).After-part_start-bottom in
    omega (arith, r.small, r.wide, r.forward)

pub overflow_sub-area : goal.overflow_sub-area
overflow_sub-area c = (between (goal.at.overflow_sub-area c).After-part_start-bottom).forward

pub overflow_sub-area-2 : goal.overflow_sub-area-2
overflow_sub-area-2 c = (between (goal.at.overflow_sub-area-2 c).After-part_start-bottom).downward

pub returns : goal.returns
returns c =
    block-at-is _ _ _ _ _ _
    c.part_start-left.ensures c.part_start-right.ensures
    c.part_start-top.ensures c.part_start-bottom.ensures
