-- `coefficients::quantiser::quantiser_of` meets its contract: the factor and the offset are those of the index and the flag, and have 31 bits.
use Rattle.coefficients.specs.Quantiser.{dequantise}
use Rattle.coefficients.proofs.QuantiserLaws.{factor-below, offset-below}
use Rattle.coefficients.proofs.quantiser.quantiser_of.Goals as goal

pub returns : goal.returns
unfolding dequantise
returns c = rw (c.quant_factor-factor.ensures, c.quant_offset-offset.ensures)

pub invariant_of-result : goal.invariant_of-result
invariant_of-result c =
    record {
      factor_small = rw c.quant_factor-factor.ensures (factor-below c.args.index c.requires);
      offset_small = rw c.quant_offset-offset.ensures (offset-below c.args.intra c.args.index c.requires);
    }
