use mathlib.Core.Path.{◌≡◌, sym}
use native.Mathlib.Omega.{arith}
use Rattle.std.proofs.lemmas.Result.{err_from_is_err_and}
use Rattle.base.proofs.WalkLaws.{walk_none}
use Rattle.prediction.specs.Prediction.{predicted_value, predicted_row}
use Rattle.prediction.proofs.PredictionLaws.{value_stays, turn-fits, turn-ends}
use Rattle.prediction.proofs.predict_row.Goals as goal

pub loop-x-init : goal.loop-x-init
loop-x-init c = walk_none (predicted_value _ _) _ _

pub returns-in_err-predict_value : goal.returns-in_err-predict_value
unfolding predicted_row
returns-in_err-predict_value c =
    let p = err_from_is_err_and c.from_residual.result c.from_residual.ensures.1 in
    rw p.1
    (turn-ends (predicted_value _ _) _ c.loop-x.x _ c.loop-x.invariant (value_stays _ _) _ _ (omega arith)
    (rw c.in_err-predict_value.was at c.predict_value.ensures))

pub loop-x-preserved : goal.loop-x-preserved
loop-x-preserved c = turn-fits (predicted_value _ _) _ c.loop-x.x _ c.loop-x.invariant _ (rw c.in_ok-predict_value.was at c.predict_value.ensures)

pub returns : goal.returns
unfolding predicted_row
returns c =
    let all : c.loop-x.x ≡ c.args.width = omega arith in
    sym (rw all at c.loop-x.invariant)
