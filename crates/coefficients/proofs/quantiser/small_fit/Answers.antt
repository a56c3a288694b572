-- `coefficients::quantiser::small_fit` meets its contract: the test is of size 14, dequantised.
use Rattle.coefficients.specs.Scaling.{small_fit}
use Rattle.coefficients.proofs.quantiser.small_fit.Goals as goal

pub returns : goal.returns
unfolding small_fit
returns c = rw c.dequantised.ensures.0
