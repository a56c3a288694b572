-- `coefficients::values::store_value` meets its contract: the test is the definition's, of the number that it stores.
use mathlib.Core.Path.{◌≡◌, refl, sym, ◌∙◌}
use mir.Syntax.{w32, w64}
use mir.Val.{to_z, of_z}
use Rattle.std.proofs.lemmas.Bool.{false_from_ne_true}
use Rattle.base.specs.Range.{fits32}
use Rattle.base.specs.Sign.{with_sign}
use Rattle.base.proofs.RangeLaws.{back, fits32-below, below-fits32}
use Rattle.coefficients.specs.Scaling.{scale_of}
use Rattle.coefficients.proofs.ReadingLaws.{store-fits, store_out}
use Rattle.coefficients.proofs.values.store_value.Goals as goal
use Rattle.coefficients.proofs.values.store_value.Goals.{After-with_sign-v}

-- the number with its sign is the contract's, and fits 64 bits
signed-value : (c : After-with_sign-v) →
    let number = c.args.number in
    to_z w64 (of_z w64 c.with_sign-v.result) ≡ with_sign (scale_of c.args.q number.size) number.minus
signed-value c = back w64 c.with_sign-v.result c.with_sign-v.type_inv ∙ c.with_sign-v.ensures ∙ rw c.dequantised.ensures.0 refl

pub returns-in_default : goal.returns-in_default
returns-in_default c =
    let v = signed-value (goal.at.returns-in_default c).After-with_sign-v in
    let never = false_from_ne_true (fits32 (to_z w64 (of_z w64 c.with_sign-v.result))) (λ e. c.in_default.ensures (record { sfits = fits32-below _ e })) in
    sym (store_out _ _ _ _ _ (rw v at never))

pub returns : goal.returns
returns c =
    let told = c.in-Ok.ensures in
    let v = signed-value (goal.at.returns c).After-with_sign-v in
    let fits = below-fits32 (to_z w64 (of_z w64 c.with_sign-v.result)) told.0.sfits in
    rw (told.1, back w32 _ told.0.sfits, v) (sym (store-fits _ _ _ _ _ (rw v at fits)))
