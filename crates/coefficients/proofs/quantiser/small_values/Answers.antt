use mathlib.Core.Path.{◌≡◌, refl, ◌∙◌}
use mathlib.Core.Bool.{true}
use native.Mathlib.Omega.{arith}
use lib.IntN.{pos}
use lib.ListN.{length-set}
use mir.Syntax.{w32, w64}
use mir.Val.{to_z, of_z}
use Rattle.base.proofs.RangeLaws.{back}
use Rattle.base.proofs.ListsLaws.{table_more}
use Rattle.coefficients.specs.Scaling.{scale_of, small_fit, small_value}
use Rattle.coefficients.proofs.ScalingLaws.{scaled-zero, small-fits}
use Rattle.coefficients.proofs.quantiser.small_values.Goals as goal
use Rattle.coefficients.proofs.quantiser.small_values.Goals.{After-with_sign, Else-not-small_fit}

-- the small values fit where the loop is reached
all_fit : (c : Else-not-small_fit) → small_fit c.args.q ≡ true
all_fit c = cc c.if-not-small_fit.false

-- the number with its sign is the small value, and fits 64 bits
small-value : (c : After-with_sign) →
    to_z w64 (of_z w64 c.with_sign.result)
    ≡ small_value (scale_of c.args.q) c.loop-k.k
unfolding small_value
small-value c = back w64 c.with_sign.result c.with_sign.type_inv ∙ c.with_sign.ensures ∙ rw c.dequantised.ensures.0 refl

pub narrow-requires : goal.narrow-requires
narrow-requires c =
    rw (small-value (goal.at.narrow-requires c).After-with_sign) (small-fits c.args.q (all_fit (goal.at.narrow-requires c).Else-not-small_fit) c.loop-k.k (omega arith))

pub loop-k-preserved : goal.loop-k-preserved
loop-k-preserved c = (
  omega arith,
  simp length-set c.loop-k.invariant.1,
  table_more c.loop-k.small (small_value (scale_of c.args.q)) (pos 0) c.loop-k.k _ (omega (arith, c.loop-k.invariant.1))
      (back w32 c.narrow.result c.narrow.type_inv ∙ c.narrow.ensures ∙ small-value (goal.at.loop-k-preserved c).After-with_sign) c.loop-k.invariant.2,
)

pub returns : goal.returns
returns c = λ fit.
    let all : c.loop-k.k ≡ 30 = omega arith in
    record {
      none = scaled-zero _ _ 0 refl;
      fits = small-fits c.args.q fit;
      each = rw all at c.loop-k.invariant.2;
    }
