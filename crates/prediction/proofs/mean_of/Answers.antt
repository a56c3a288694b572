-- `prediction::mean_of` meets its contract: the sum of three numbers of 32 bits and 1 fits 64.
use mathlib.Core.Path.{◌≡◌, ap, ◌∙◌}
use native.Mathlib.Omega.{arith}
use lib.IntN.{ℤ}
use mir.Syntax.{w64}
use mir.Val.{to_z, of_z}
use Rattle.std.proofs.lemmas.Int.{ints}
use Rattle.base.specs.Floor.{floor_div}
use Rattle.base.proofs.RangeLaws.{back}
use Rattle.prediction.specs.Prediction.{mean_of}
use Rattle.prediction.proofs.PredictionLaws.{sum-fits, mean-small}
use Rattle.prediction.proofs.mean_of.Goals as goal
use Rattle.prediction.proofs.mean_of.Goals.{After-third}

pub overflow_add-from-3 : goal.overflow_add-from-3
overflow_add-from-3 c =
    sum-fits (to_z w64 (of_z w64 c.from.result)) (to_z w64 (of_z w64 c.from-2.result)) (to_z w64 (of_z w64 c.from-3.result))
    (omega (arith, ints)) (omega (arith, ints)) (omega (arith, ints))

third : (c : After-third) → to_z w64 (of_z w64 c.third.result) ≡ mean_of c.args.left c.args.corner c.args.upper
unfolding mean_of
third c = back w64 _ c.third.type_inv ∙ c.third.ensures ∙ ap (λ (z : ℤ). floor_div z 3) (omega (arith, ints))

pub returns-clause-is : goal.returns-clause-is
returns-clause-is c = third (goal.at.returns-clause-is c).After-third

pub returns-clause-small : goal.returns-clause-small
returns-clause-small c =
    let r = c.ranges in
    rw (third (goal.at.returns-clause-small c).After-third) (mean-small _ _ _ r.left.sfits r.corner.sfits r.upper.sfits)
