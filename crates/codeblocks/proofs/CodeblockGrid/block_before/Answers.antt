-- `codeblocks::CodeblockGrid::block_before` meets its contract: before the first codeblock stands one with no values, and before any other the one before it.
use mathlib.Core.Path.{refl, ◌∙◌}
use Rattle.codeblocks.specs.Blocks.{block_before}
use Rattle.codeblocks.proofs.BlocksLaws.{block-before-some}
use Rattle.codeblocks.proofs.CodeblockGrid.block_before.Goals as goal

pub returns-then-begun-eq0 : goal.returns-then-begun-eq0
unfolding block_before
returns-then-begun-eq0 c = rw c.if-begun-eq0.true refl

pub returns : goal.returns
returns c = c.block_at.ensures ∙ block-before-some _ _ c.if-begun-eq0.false
