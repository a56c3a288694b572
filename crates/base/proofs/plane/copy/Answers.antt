use mathlib.Core.Path.{refl, sym}
use Prim.Native.Nat.{◌+◌}
use native.Mathlib.Omega.{arith}
use lib.IntN.{pos}
use lib.ListN.{get_or, length-set}
use mir.Syntax.{w32}
use borrow.Author.Rules.{rules}
use Rattle.base.proofs.FillLaws.{fill_none, fill_more}
use Rattle.base.proofs.RangeLaws.{back}
use Rattle.base.proofs.plane.copy.Goals as goal

pub loop-x-init : goal.loop-x-init
loop-x-init c = (omega arith, refl, sym (fill_none _ _ _))

pub loop-x-preserved : goal.loop-x-preserved
loop-x-preserved c =
    let args = c.args in
    let inv = c.loop-x.invariant in (
      omega arith,
      simp length-set inv.1,
      rw (back w32 (get_or args.source.now (args.from + c.loop-x.x) (pos 0)) (search rules), inv.2) (fill_more _ _ _ _ _ refl),
    )
