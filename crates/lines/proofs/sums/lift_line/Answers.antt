use mathlib.Core.Path.{◌≡◌, refl, sym, ◌∙◌}
use mathlib.Core.Bool.{true, false}
use Prim.Native.Nat.{◌+◌}
use native.Mathlib.Omega.{arith}
use lib.IntN.{pos}
use lib.ListN.{get_or}
use mir.Syntax.{w32, w64}
use mir.Val.{to_z, of_z}
use Rattle.base.specs.Range.{fits32}
use Rattle.base.proofs.EveryLaws.{all_none, all_more, all-not}
use Rattle.base.proofs.Booleans.{and-true}
use Rattle.base.proofs.FillLaws.{fill_none, fill_more, get_d-fill-out}
use Rattle.base.proofs.RangeLaws.{back, fits32-below}
use Rattle.lines.specs.Sums.{number_at, new_at}
use Rattle.std.proofs.lemmas.Result.{err_from_is_err_and}
use Rattle.lines.proofs.sums.lift_line.Goals as goal
use Rattle.lines.proofs.sums.lift_line.Goals.{After-try_narrow}

pub loop-x-init : goal.loop-x-init
loop-x-init c = (sym (fill_none _ _ _), all_none _)

-- the new number is that of the line that came
made : (c : After-try_narrow) → to_z w64 (of_z w64 c.lifted-new.result) ≡ new_at c.args.adds c.args.scale c.args.line.now c.args.start (number_at c.args.sums.now) c.loop-x.x
made c =
    let at = c.args.start + c.loop-x.x in
    let same : get_or c.loop-x.line at (pos 0) ≡ get_or c.args.line.now at (pos 0) =
    rw c.loop-x.invariant.0 (get_d-fill-out _ _ _ c.loop-x.x at (pos 0) (λ k below. omega arith)) in
    back w64 c.lifted-new.result c.lifted-new.type_inv
    ∙ c.lifted-new.ensures
    ∙ rw (back w32 (get_or c.loop-x.line at (pos 0)) c.lifted-arg-1.given, same, back w64 (get_or c.args.sums.now c.loop-x.x (pos 0)) c.lifted-arg-in-loop-x-1.given) refl

pub returns-in_err-line-clause-told : goal.returns-in_err-line-clause-told
returns-in_err-line-clause-told c =
    let p = err_from_is_err_and c.from_residual.result c.from_residual.ensures.1 in
    let outside : fits32 (to_z w64 (of_z w64 c.lifted-new.result)) ≡ false = sym c.in_err-line.ensures.told in
    rw p.1 (sym (all-not _ c.args.width c.loop-x.x (omega arith) (rw (made (goal.at.returns-in_err-line-clause-told c).After-try_narrow) at outside)))

pub loop-x-preserved : goal.loop-x-preserved
loop-x-preserved c =
    let new = made (goal.at.loop-x-preserved c).After-try_narrow in
    let fits : fits32 (to_z w64 (of_z w64 c.lifted-new.result)) ≡ true = sym c.in_ok-line.ensures.told in (
      rw (c.in_ok-line.ensures.same, back w32 _ (fits32-below _ fits), new, c.loop-x.invariant.0) (fill_more _ _ _ _ _ refl),
      all_more _ c.loop-x.x ∙ and-true _ _ c.loop-x.invariant.1 (rw new at fits),
    )
