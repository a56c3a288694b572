-- `exp_golomb::codes::read_signed` meets its contract: the sign bit is taken after a number that was read and is not 0.
use mathlib.Core.Path.{refl}
use Rattle.std.proofs.lemmas.Result.{err_from_is_err_and}
use Rattle.exp_golomb.specs.Codes.{signed}
use Rattle.exp_golomb.proofs.CodesLaws.{needed-taken, needed-absent, result-read, result-fault, sign-refused, sign-none, sign-missing, sign_read}
use Rattle.exp_golomb.proofs.codes.read_signed.Goals as goal

pub returns-in_err-number : goal.returns-in_err-number
unfolding signed
returns-in_err-number c =
    let p = err_from_is_err_and c.from_residual.result c.from_residual.ensures.1 in
    rw (p.1, p.2, sign-refused _ _ _ _ (result-fault _ _ c.in_err-number.ensures).2) c.in_err-number.ensures

pub returns-then-number-eq0 : goal.returns-then-number-eq0
unfolding signed
returns-then-number-eq0 c = rw (sign-none _ _ _ _ _ _ _ (result-read _ _ c.in_ok-number.ensures) c.if-number-eq0.true, c.if-number-eq0.true) refl

pub returns-in_err-sign : goal.returns-in_err-sign
unfolding signed
returns-in_err-sign c =
    let p = err_from_is_err_and c.from_residual-in_err-sign.result c.from_residual-in_err-sign.ensures.1 in
    let m = needed-absent _ _ _ c.in_err-sign.ensures in
    rw (p.1, p.2, sign-missing _ _ _ _ _ _ _ (result-read _ _ c.in_ok-number.ensures) c.if-number-eq0.false m.0) m.1

pub returns : goal.returns
unfolding signed
returns c =
    rw (sign_read _ _ _ _ _ _ _ _ _ (result-read _ _ c.in_ok-number.ensures) c.if-number-eq0.false (needed-taken _ _ _ c.in_ok-sign.ensures)) refl
