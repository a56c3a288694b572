-- `coefficients::quantiser::quantiser_by` meets its contract: the factor is the table's, and the offset that of the index and the flag.
use mathlib.Core.Path.{◌≡◌, ◌∙◌}
use Rattle.coefficients.specs.Quantiser.{quant_factor, dequantise}
use Rattle.coefficients.proofs.QuantiserLaws.{factor-below, offset-below}
use Rattle.coefficients.proofs.quantiser.quantiser_by.Goals as goal
use Rattle.coefficients.proofs.quantiser.quantiser_by.Goals.{After-from-factor}

-- the table's entry is the factor
known : (c : After-from-factor) → c.from-factor.result ≡ quant_factor c.args.index
known c = c.from-factor.ensures ∙ c.requires.1.each c.args.index c.requires.0

pub quant_offset-offset-requires : goal.quant_offset-offset-requires
quant_offset-offset-requires c = (c.requires.0, known (goal.at.quant_offset-offset-requires c).After-from-factor)

pub returns : goal.returns
unfolding dequantise
returns c = rw (known (goal.at.returns c).After-from-factor, c.quant_offset-offset.ensures)

pub invariant_of-result : goal.invariant_of-result
invariant_of-result c =
    record {
      factor_small = rw (known (goal.at.invariant_of-result c).After-from-factor) (factor-below c.args.index c.requires.0);
      offset_small = rw c.quant_offset-offset.ensures (offset-below c.args.intra c.args.index c.requires.0);
    }
