-- `prediction::predict` meets its contract: after y turns the state is that of the first y rows, and a row that does not fit ends the walk.
use mathlib.Core.Path.{◌≡◌}
use mathlib.Core.Bool.{true}
use Rattle.base.specs.Walk.{walk}
use Rattle.prediction.specs.Prediction.{ended, predicted_row}
use Rattle.prediction.proofs.predict.Given as goal

abbrev pub invariant-loop-y : goal.invariant-loop-y
invariant-loop-y l = walk (predicted_row l.stride l.width) 0 l.y (ended true l.initial.plane) ≡ ended true l.plane
