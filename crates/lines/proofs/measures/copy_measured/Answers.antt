use mathlib.Core.Path.{refl, sym, ap, ◌∙◌}
use Prim.Native.Nat.{◌+◌}
use native.Mathlib.Omega.{arith}
use borrow.Author.Count.{below_more}
use lib.IntN.{pos}
use lib.ListN.{get_or}
use lib.Signed.{mag}
use mir.Syntax.{w32}
use Rattle.base.proofs.FillLaws.{fill_none, fill_more}
use Rattle.base.proofs.RangeLaws.{back}
use Rattle.lines.proofs.measures.copy_measured.Goals as goal

pub loop-x-init : goal.loop-x-init
loop-x-init c = (sym (fill_none _ _ _), λ k h. absurd (omega arith))

pub loop-x-preserved : goal.loop-x-preserved
loop-x-preserved c =
    let joined = c.join-most.ensures in
    let entry = back w32 (get_or c.args.source.now (c.args.from + c.loop-x.x) (pos 0)) c.v-1.given in
    let size = c.magnitude.ensures ∙ ap mag entry in (
      rw (entry, c.loop-x.invariant.0) (fill_more _ _ _ _ _ refl),
      below_more _ _ (λ k h. omega (arith, c.loop-x.invariant.1 k h, joined.0)) (omega (arith, size, joined.1)),
    )
