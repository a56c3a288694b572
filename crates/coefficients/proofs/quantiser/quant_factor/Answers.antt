-- `coefficients::quantiser::quant_factor` meets its contract: the table has the factor of each index.
use mathlib.Core.Path.{◌∙◌}
use Rattle.coefficients.proofs.quantiser.quant_factor.Goals as goal

pub returns : goal.returns
returns c = c.from.ensures ∙ c.factor_table.ensures.each c.args.index c.requires
