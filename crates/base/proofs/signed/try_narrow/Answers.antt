-- `base::signed::try_narrow` meets its contract: the library's conversion succeeds just where the number fits.
use mathlib.Core.Path.{◌≡◌, sym}
use mathlib.Core.Bool.{true, false}
use mir.Syntax.{w64}
use mir.Val.{to_z, of_z}
use Rattle.std.proofs.lemmas.Result.{OkIff-at_ok, OkIff-at_err, err_from_is_err_and}
use Rattle.base.specs.Range.{fits32}
use Rattle.base.proofs.RangeLaws.{back, below-fits32, fits32-outside}
use Rattle.base.proofs.signed.try_narrow.Goals as goal

pub returns-in_err-try_from-clause-told : goal.returns-in_err-try_from-clause-told
returns-in_err-try_from-clause-told c =
    let p = err_from_is_err_and c.from_residual.result c.from_residual.ensures.1 in
    let outside : fits32 (to_z w64 (of_z w64 c.args.x)) ≡ false = fits32-outside _ (OkIff-at_err _ _ _ _ c.try_from.ensures c.in_err-try_from.was) in
    rw p.1 (sym (rw (back w64 c.args.x c.ranges.x.sfits) at outside))

pub returns-clause-told : goal.returns-clause-told
returns-clause-told c =
    let kept = OkIff-at_ok _ _ _ _ c.try_from.ensures c.in_ok-try_from.was in
    let inside : fits32 (to_z w64 (of_z w64 c.args.x)) ≡ true = below-fits32 _ kept.0.sfits in
    sym (rw (back w64 c.args.x c.ranges.x.sfits) at inside)
