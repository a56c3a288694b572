-- Document 01, "Bench readings": "Prove these twelve rows (the nine factors are one row), as a single table under one statement". The table
-- stands in specs/Examples.antt, and computing it proves the statement. Beside it, the two readings of document 02's request Three.
-- Assumes nothing.
use mathlib.Core.Path.{◌≡◌, refl}
use mathlib.Core.Bool.{true, false}
use mathlib.Core.List.{map}
use Rattle.base.specs.Lists.{tabulate}
use Rattle.base.specs.Sign.{with_sign}
use Rattle.exp_golomb.specs.Bits.{bit_at, present, take_bit}
use Rattle.exp_golomb.specs.Codes.{on_bit, code_from, unsigned, with_sign_bit, signed}
use Rattle.filters.specs.Filters.{deslauriers_dubuc97, le_gall53, deslauriers_dubuc137, haar, haar_with_shift, fidelity, daubechies97, haar_steps, filter_of}
use Rattle.filters.specs.Lifting.{changes_even, adds, clamp, read_position, tap_sum, rounding, update, changes, lift}
use Rattle.filters.specs.Passes.{run, run_all}
use Rattle.filters.specs.Planes.{picture_of, raster}
use Rattle.coefficients.specs.Quantiser.{factor_of, quant_factor, intra_offset, difference_offset, quant_offset, scaled, dequantise}
use Rattle.prediction.specs.Prediction.{mean_of}
use Rattle.worked_examples.specs.Examples.{Row, read_from, table}

-- In every row the numbers computed are those expected.
pub worked-examples : map (λ (row : Row). row.computed) table ≡ map (λ (row : Row). row.expected) table
unfolding table read_from tabulate with_sign mean_of factor_of quant_factor intra_offset quant_offset scaled dequantise
    bit_at present take_bit on_bit code_from unsigned with_sign_bit signed
    deslauriers_dubuc97 le_gall53 deslauriers_dubuc137 haar haar_with_shift fidelity daubechies97 haar_steps filter_of
    changes_even adds clamp read_position tap_sum rounding update changes lift run run_all picture_of raster
worked-examples = refl

-- Document 02, Three: "A magnitude 1 at index 12 reads 12 in intra and 11 otherwise."
pub intra-example : dequantise true 12 1 ≡ 12
unfolding factor_of quant_factor intra_offset quant_offset scaled dequantise
intra-example = refl

pub difference-example : dequantise false 12 1 ≡ 11
unfolding factor_of quant_factor difference_offset quant_offset scaled dequantise
difference-example = refl
