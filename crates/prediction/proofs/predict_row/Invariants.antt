-- `prediction::predict_row` meets its contract: after x turns the state is that of the first x values, and a value that does not fit ends the walk.
use mathlib.Core.Path.{◌≡◌}
use mathlib.Core.Bool.{true}
use Rattle.base.specs.Walk.{walk}
use Rattle.prediction.specs.Prediction.{ended, predicted_value}
use Rattle.prediction.proofs.predict_row.Given as goal

abbrev pub invariant-loop-x : goal.invariant-loop-x
invariant-loop-x l = walk (predicted_value l.stride l.y) 0 l.x (ended true l.initial.plane) ≡ ended true l.plane
