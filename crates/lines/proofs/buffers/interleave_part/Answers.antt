use mathlib.Core.Path.{refl, sym}
use mir.Syntax.{w32}
use Rattle.base.proofs.FillLaws.{fill_none, fill_more}
use Rattle.base.proofs.RangeLaws.{back}
use Rattle.lines.proofs.buffers.interleave_part.Goals as goal

pub loop-x-init : goal.loop-x-init
loop-x-init c = sym (fill_none _ _ _)

pub loop-x-preserved : goal.loop-x-preserved
loop-x-preserved c =
    rw (back w32 c.row_number.result c.row_number.type_inv, c.row_number.ensures, c.loop-x.invariant) (fill_more _ _ _ _ _ refl)
