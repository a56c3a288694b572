-- `prediction::predict_value` meets its contract: the sum fits 64 bits, and is stored where it fits 32.
use mathlib.Core.Path.{◌≡◌, sym}
use Prim.Native.Nat.{◌+◌, ◌*◌}
use native.Mathlib.Omega.{arith}
use borrow.Author.Rules.{rules}
use lib.IntN.{pos, ◌+ℤ◌}
use lib.ListN.{get_or}
use mir.Syntax.{w32, w64}
use mir.Val.{to_z, of_z}
use Rattle.std.proofs.Common.{FitsSigned}
use Rattle.std.proofs.lemmas.Int.{ints}
use Rattle.std.proofs.lemmas.Result.{err_from_is_err_and}
use Rattle.base.proofs.RangeLaws.{back, fits32-below}
use Rattle.prediction.specs.Prediction.{predictor}
use Rattle.prediction.proofs.PredictionLaws.{value-stored, value-not-stored}
use Rattle.prediction.proofs.predict_value.Goals as goal
use Rattle.prediction.proofs.predict_value.Goals.{After-predictor_at}

-- the value and what is predicted, added
sum : (c : After-predictor_at) →
    let a = c.args in
    to_z w64 (of_z w64 (to_z w64 (of_z w64 c.from.result) +ℤ to_z w64 (of_z w64 c.predictor_at.result)))
    ≡ get_or a.plane.now (a.y * a.stride + a.x) (pos 0) +ℤ predictor a.stride a.plane.now a.y a.x
sum c =
    let a = c.args in
    let fits : FitsSigned w32 (get_or a.plane.now (a.y * a.stride + a.x) (pos 0)) = search rules in
    omega (arith, ints, c.predictor_at.ensures.is)

pub returns-in_err-plane : goal.returns-in_err-plane
returns-in_err-plane c =
    let p = err_from_is_err_and c.from_residual.result c.from_residual.ensures.1 in
    rw p.1 (value-not-stored _ _ _ _ _ (sum (goal.at.returns-in_err-plane c).After-predictor_at) (sym c.in_err-plane.ensures.told))

pub returns : goal.returns
returns c =
    let fits = sym c.in_ok-plane.ensures.told in
    rw (c.in_ok-plane.ensures.same, back w32 _ (fits32-below _ fits)) (value-stored _ _ _ _ _ (sum (goal.at.returns c).After-predictor_at) fits)
