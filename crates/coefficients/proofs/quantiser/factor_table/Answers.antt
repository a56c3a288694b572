-- `coefficients::quantiser::factor_table` meets its contract: every entry passes the test, which is computed.
use mathlib.Core.Path.{refl}
use Rattle.base.specs.Every.{all_below}
use Rattle.coefficients.specs.Quantiser.{factor_of, quant_factor}
use Rattle.coefficients.proofs.FactorsLaws.{is_factor, factors-known}
use Rattle.coefficients.proofs.quantiser.factor_table.Goals as goal

pub returns : goal.returns
unfolding all_below is_factor quant_factor factor_of
returns c = factors-known _ refl
