-- Document 02, request Four: a picture of two slices, and pictures of one short slice, by computation of every definition between their bytes
-- and their planes. The picture of two slices is among the stored jobs of crates/low_delay_vectors too.
-- Assumes nothing.
use Prim.Native.Nat.{ℕ}
use mathlib.Core.Path.{◌≡◌, refl}
use mathlib.Core.Bool.{true}
use mathlib.Core.List.{List, [], ◌∷◌}
use lib.IntN.{ℤ, pos, neg_ℤ}
use lib.ListN.{replicate}
use Rattle.base.specs.Every.{all_below}
use Rattle.base.specs.Lists.{zeros_like}
use Rattle.base.specs.Range.{fits32}
use Rattle.base.specs.Sign.{with_sign}
use Rattle.base.specs.Walk.{walk}
use Rattle.component.specs.Sizes.{padded_size, band_size, size_at}
use Rattle.component.specs.Subbands.{subband_level, detail_of, orientation_of, left_of, top_of, subband_at}
use Rattle.component.specs.Partition.{part_start}
use Rattle.exp_golomb.specs.Bits.{bit_at, bits_from, present, take_bit}
use Rattle.exp_golomb.specs.Codes.{on_bit, code_from, unsigned, with_sign_bit, signed}
use Rattle.coefficients.specs.Quantiser.{factor_of, quant_factor, intra_offset, quant_offset, scaled, dequantise}
use Rattle.coefficients.specs.Reading.{going, on_number, store, value}
use Rattle.codeblocks.specs.Codeblocks.{codeblock_area}
use Rattle.prediction.specs.Prediction.{mean_of, predictor, store_predicted, predicted_value, predicted_row, prediction}
use Rattle.slices.specs.Planes.{planes_of, zeros, in_luma, in_first, in_second}
use Rattle.slices.specs.Areas.{grid_of, band_slices, slice_area, slice_count, subband_index, indices_fit}
use Rattle.slices.specs.Parts.{entry_values, area_values, part_values, parts_values}
use Rattle.low_delay.specs.Slices.{slice_start, slice_size, least_power, length_bits, low_delay_parts, slice_parts, slice}
use Rattle.low_delay.specs.Job.{LowDelayResult, result, sizes_in_range, counts_in_range, fraction_in_range, matrix_in_range, slices_in_range, planes_fit, refusal_of, predicted_plane, accepted, predicted, finished, after_slice, slices_from, unpacked}
use Rattle.low_delay.specs.declared.parameters.LowDelay.{LowDelay}

abbrev minus : ℕ → ℤ
minus n = neg_ℤ (pos n)

-- what a plane holds before
abbrev sevens : ℕ → List ℤ
sevens n = replicate n (pos 7)

-- 4 by 2 samples of luma and 2 by 2 of chroma at depth 1, in two slices of 4 and 5 bytes, with a matrix
abbrev two_slices : LowDelay
two_slices =
    record {
      picture =
          record {
            luma_width = 4;
            luma_height = 2;
            chroma_width = 2;
            chroma_height = 2;
            depth = 1;
            intra = true;
            slices_across = 2;
            slices_down = 1;
            matrix = 2 ∷ 0 ∷ 0 ∷ 1 ∷ 0 ∷ 0 ∷ 0 ∷ 0 ∷ 0 ∷ 0 ∷ 0 ∷ 0 ∷ 0 ∷ [];
          };
      numerator = 9;
      denominator = 2;
    }

-- one sample of each component at depth 0, in one slice of so many bytes
abbrev one_slice : ℕ → LowDelay
one_slice size =
    record {
      picture =
          record {
            luma_width = 1;
            luma_height = 1;
            chroma_width = 1;
            chroma_height = 1;
            depth = 0;
            intra = true;
            slices_across = 1;
            slices_down = 1;
            matrix = 0 ∷ 0 ∷ 0 ∷ 0 ∷ 0 ∷ 0 ∷ 0 ∷ 0 ∷ 0 ∷ 0 ∷ 0 ∷ 0 ∷ 0 ∷ [];
          };
      numerator = size;
      denominator = 1;
    }

-- one sample of each component, from bytes
abbrev of_one_slice : ℕ → List ℕ → LowDelayResult
of_one_slice size bytes = unpacked (one_slice size) bytes (planes_of (sevens 1) (sevens 1) (sevens 1))

pub low-delay-examples :
    -- two slices of 4 and 5 bytes
    (unpacked two_slices (0x08 ∷ 0xf0 ∷ 0x8e ∷ 0x5f ∷ 0x04 ∷ 0x53 ∷ 0xca ∷ 0x47 ∷ 0x6f ∷ []) (planes_of (sevens 8) (sevens 4) (sevens 4))
    ≡ result 0 9
    (planes_of (pos 5 ∷ pos 3 ∷ minus 3 ∷ pos 0 ∷ pos 0 ∷ pos 2 ∷ pos 3 ∷ pos 0 ∷ []) (pos 1 ∷ pos 0 ∷ pos 0 ∷ pos 0 ∷ [])
    (minus 1 ∷ pos 4 ∷ pos 0 ∷ pos 0 ∷ [])))
    -- a slice of one byte has one bit for values: a 0 starts the first value of C1, and "a bit past a part's end reads as 1"
    × (of_one_slice 1 (0x00 ∷ []) ≡ result 0 1 (planes_of (pos 0 ∷ []) (minus 2 ∷ []) (pos 0 ∷ [])))
    × (of_one_slice 1 (0x01 ∷ []) ≡ result 0 1 (planes_of (pos 0 ∷ []) (pos 0 ∷ []) (pos 0 ∷ [])))
    -- a slice of two bytes has 5 bits for values: a luma length of 5 is all of them, and "14 when the luma length exceeds the bits left"
    × (of_one_slice 2 (0x00 ∷ 0xa0 ∷ []) ≡ result 0 2 (planes_of (minus 8 ∷ []) (pos 0 ∷ []) (pos 0 ∷ [])))
    × (of_one_slice 2 (0x00 ∷ 0xc0 ∷ []) ≡ result 14 0 (planes_of (pos 0 ∷ []) (pos 0 ∷ []) (pos 0 ∷ [])))
unfolding all_below zeros_like fits32 with_sign walk padded_size band_size size_at subband_level detail_of orientation_of left_of top_of subband_at part_start bit_at bits_from present take_bit on_bit code_from unsigned with_sign_bit signed factor_of quant_factor intra_offset quant_offset scaled dequantise going on_number store value codeblock_area mean_of predictor store_predicted predicted_value predicted_row prediction zeros in_luma in_first in_second grid_of band_slices slice_area slice_count subband_index indices_fit entry_values area_values part_values parts_values slice_start slice_size least_power length_bits low_delay_parts slice_parts slice sizes_in_range counts_in_range fraction_in_range matrix_in_range slices_in_range planes_fit refusal_of predicted_plane accepted predicted finished after_slice slices_from unpacked
low-delay-examples = (refl, refl, refl, refl, refl)
