-- `codeblocks::CodeblockGrid::next_block` meets its contract: in a row of codeblocks it goes on from the one before, and at a row's start it computes the
-- codeblock anew.
use native.Mathlib.Omega.{arith}
use Rattle.component.proofs.ReciprocalLaws.{reciprocal-small}
use Rattle.codeblocks.proofs.BlocksLaws.{column-before, BesideBefore, beside}
use Rattle.codeblocks.proofs.CodeblockGrid.next_block.Goals as goal
use Rattle.codeblocks.proofs.CodeblockGrid.next_block.Goals.{After-part_start_by-right}

pub overflow_add-x : goal.overflow_add-x
overflow_add-x c =
    omega (arith, column-before _ _ _ c.requires.0.across_least c.requires.2, c.requires.0.across_most)

pub part_start_by-right-requires : goal.part_start_by-right-requires
part_start_by-right-requires c =
    let counted = c.requires.0 in
    (omega (arith, counted.wide, counted.narrow), omega (arith, c.requires.3, reciprocal-small c.args.self.across), omega (arith, c.if-self-x.false, counted.across_most))

-- the codeblock goes on in its row
in_row : (c : After-part_start_by-right) →
    BesideBefore c.args.self c.args.m c.args.before c.part_start_by-right.result
in_row c =
    beside c.args.self c.requires.0 c.args.m c.args.before _ c.requires.1 c.requires.2 (omega (arith, c.if-self-x.false)) (c.part_start_by-right.ensures _ c.requires.0.across_least c.requires.0.across_most c.requires.3)

pub overflow_add-area : goal.overflow_add-area
overflow_add-area c = omega (arith, (in_row (goal.at.overflow_add-area c).After-part_start_by-right).small)

pub overflow_sub-area : goal.overflow_sub-area
overflow_sub-area c = (in_row (goal.at.overflow_sub-area c).After-part_start_by-right).forward

pub returns : goal.returns
returns c = (in_row (goal.at.returns c).After-part_start_by-right).block-is
