use mathlib.Core.Path.{◌≡◌, sym}
use native.Mathlib.Omega.{arith}
use Rattle.std.proofs.lemmas.Result.{err_from_is_err_and}
use Rattle.base.proofs.WalkLaws.{walk_none}
use Rattle.prediction.specs.Prediction.{predicted_row, prediction}
use Rattle.prediction.proofs.PredictionLaws.{row_stays, turn-fits, turn-ends}
use Rattle.prediction.proofs.predict.Goals as goal

pub loop-y-init : goal.loop-y-init
loop-y-init c = walk_none (predicted_row _ _) _ _

pub returns-in_err-predict_row : goal.returns-in_err-predict_row
unfolding prediction
returns-in_err-predict_row c =
    let p = err_from_is_err_and c.from_residual.result c.from_residual.ensures.1 in
    rw p.1
    (turn-ends (predicted_row _ _) _ c.loop-y.y _ c.loop-y.invariant (row_stays _ _) _ _ (omega arith)
    (rw c.in_err-predict_row.was at c.predict_row.ensures))

pub loop-y-preserved : goal.loop-y-preserved
loop-y-preserved c = turn-fits (predicted_row _ _) _ c.loop-y.y _ c.loop-y.invariant _ (rw c.in_ok-predict_row.was at c.predict_row.ensures)

pub returns : goal.returns
unfolding prediction
returns c =
    let all : c.loop-y.y ≡ c.args.height = omega arith in
    sym (rw all at c.loop-y.invariant)
