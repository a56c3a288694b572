-- `prediction::predictor_at` meets its contract: its cases are the definition's, and the row above starts a stride earlier.
use mathlib.Core.Path.{◌∙◌}
use Prim.Native.Nat.{◌+◌, ◌-◌, ◌*◌}
use borrow.Author.Rules.{rules}
use lib.IntN.{pos}
use lib.ListN.{get_or}
use mir.Syntax.{w32, w64}
use Rattle.base.proofs.RangeLaws.{back}
use Rattle.prediction.proofs.PredictionLaws.{predictor-corner, predictor-top, predictor-left, predictor-inner}
use Rattle.prediction.proofs.predictor_at.Goals as goal

pub returns-in-0-eq0-clause-is : goal.returns-in-0-eq0-clause-is
returns-in-0-eq0-clause-is c = predictor-corner _ _ _ _ c.in-0-eq0.is-0 c.in-0-eq0.is-1

pub returns-in-0-default-clause-is : goal.returns-in-0-default-clause-is
returns-in-0-default-clause-is c =
    back w64 _ c.from.type_inv ∙ c.from.ensures ∙ back w32 (get_or c.args.plane.now (c.args.x - 1) (pos 0)) (search rules)
    ∙ predictor-top _ _ _ _ c.in-0-default.is-0 c.in-0-default.is-1.1

pub returns-in_default-eq0-clause-is : goal.returns-in_default-eq0-clause-is
returns-in_default-eq0-clause-is c =
    let from = c.from-in_default-eq0 in
    back w64 _ from.type_inv ∙ from.ensures ∙ back w32 (get_or c.args.plane.now ((c.args.y - 1) * c.args.stride) (pos 0)) (search rules)
    ∙ predictor-left _ _ _ _ c.in_default-eq0.is-0.1 c.in_default-eq0.is-1

pub returns-in_default-clause-is : goal.returns-in_default-clause-is
returns-in_default-clause-is c =
    let plane = c.args.plane.now in
    let stride = c.args.stride in
    let y = c.args.y in
    let x = c.args.x in
    back w64 _ c.mean_of.type_inv ∙ c.mean_of.ensures.is
    ∙ rw (
      back w32 (get_or plane (y * stride + x - 1) (pos 0)) (search rules),
      back w32 (get_or plane ((y - 1) * stride + x - 1) (pos 0)) (search rules),
      back w32 (get_or plane ((y - 1) * stride + x) (pos 0)) (search rules),
    )
    (predictor-inner stride plane y x c.in_default.is-0.1 c.in_default.is-1.1)
