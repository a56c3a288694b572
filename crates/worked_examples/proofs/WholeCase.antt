-- Document 01, "Whole case": the file and its output, and what one byte behind its body changes, by computation of every definition between
-- them.
-- Assumes nothing.
use mathlib.Core.Path.{◌≡◌, refl}
use mathlib.Core.List.{[], ◌∷◌, ◌++◌}
use Rattle.base.specs.Every.{all_below}
use Rattle.base.specs.Lists.{tabulate, zeros_like}
use Rattle.base.specs.Range.{fits32}
use Rattle.base.specs.Sign.{with_sign}
use Rattle.base.specs.Walk.{walk}
use Rattle.component.specs.Sizes.{padded_size, band_size, size_at}
use Rattle.component.specs.Subbands.{subband_level, detail_of, orientation_of, left_of, top_of, subband_at}
use Rattle.component.specs.Partition.{part_start}
use Rattle.component.specs.Checks.{sizes_in_range, depth_in_range, wavelet_in_range, counts_in_range, codeblocks_in_range, area_of, area_within, planes_fit, refusal_of}
use Rattle.exp_golomb.specs.Bits.{bit_at, present, take_bit}
use Rattle.exp_golomb.specs.Codes.{on_bit, code_from, unsigned, with_sign_bit, signed}
use Rattle.coefficients.specs.Quantiser.{factor_of, quant_factor, intra_offset, quant_offset, scaled, dequantise}
use Rattle.coefficients.specs.Reading.{going, on_number, store, value, rectangle_values}
use Rattle.codeblocks.specs.Codeblocks.{codeblock_area, on_flag, codeblock_values, codeblock, codeblocks}
use Rattle.prediction.specs.Prediction.{mean_of, predictor, store_predicted, predicted_value, predicted_row, prediction}
use Rattle.unpack.specs.Header.{boundary, on_read, header_at}
use Rattle.unpack.specs.Subband.{goes_on_at, subband_data, checked_data, headed, predicted_band, is_predicted, codeblocks_of, subband_from, subband}
use Rattle.unpack.specs.Job.{ended_with, subbands_from, unpacked}
use Rattle.filters.specs.Filters.{deslauriers_dubuc97, le_gall53, deslauriers_dubuc137, haar_steps, haar, haar_with_shift, fidelity, daubechies97, filter_of}
use Rattle.filters.specs.Lifting.{changes_even, adds, clamp, read_position, tap_sum, rounding, update, changes, lift}
use Rattle.filters.specs.Passes.{run, run_all, assigns, new_fit, all_new_fit}
use Rattle.filters.specs.Planes.{picture_of, raster}
use Rattle.transform.specs.Synthesis.{synthesis_passes, interleave, synthesis, level_fits, first_bad_level}
use Rattle.transform.specs.Job.{picture_from, bad_level, accepted, overflowed, unchanged, transformed, synthesised}
use Rattle.decode.specs.Job.{unchanged as decode_unchanged, zeroed, accepted as decode_accepted, unpacked_and_synthesised, decoded}
use Rattle.contents.specs.Bytes.{big_endian}
use Rattle.contents.specs.Table.{codeblock_count, codeblock_counts, parameters_at, offset_at, length_at, body_start, entry_is_right, table_is_right, entry_count, body}
use Rattle.text.specs.Text.{ascii, digits_within, decimal, signed_text, spaced, row_text, rows_text}
use Rattle.recording.specs.Output.{fits_program, entry_decoded, entry_status, heading, size_text, picture_text, refusal_text, entry_lines, body_lines, entry_text, joined, output}
use Rattle.contents.proofs.WholeCase.{whole_case}

-- both by one computation
computed :
    (output whole_case ≡ ascii "entry 0: 2 x 2\n9 12\n7 11\n")
    × (body_lines 0 (parameters_at whole_case 0) (body whole_case 0 ++ (0 ∷ [])) ≡ ascii "entry 0: refused 12 place 8\n")
unfolding all_below tabulate zeros_like fits32 with_sign walk padded_size band_size size_at subband_level detail_of orientation_of left_of top_of subband_at sizes_in_range depth_in_range wavelet_in_range counts_in_range codeblocks_in_range area_of planes_fit refusal_of bit_at present take_bit on_bit code_from unsigned with_sign_bit signed factor_of quant_factor intra_offset quant_offset scaled dequantise going on_number store value rectangle_values part_start codeblock_area on_flag codeblock_values codeblock codeblocks mean_of predictor store_predicted predicted_value predicted_row prediction boundary on_read header_at goes_on_at subband_data checked_data headed predicted_band is_predicted codeblocks_of subband_from subband ended_with subbands_from unpacked deslauriers_dubuc97 le_gall53 deslauriers_dubuc137 haar_steps haar haar_with_shift fidelity daubechies97 filter_of changes_even adds clamp read_position tap_sum rounding update changes lift run run_all assigns new_fit all_new_fit picture_of raster synthesis_passes interleave synthesis level_fits first_bad_level picture_from bad_level accepted overflowed unchanged transformed synthesised decode_unchanged zeroed decode_accepted unpacked_and_synthesised decoded big_endian codeblock_count codeblock_counts parameters_at offset_at length_at body_start entry_is_right table_is_right entry_count body ascii digits_within decimal signed_text spaced row_text rows_text area_within fits_program entry_decoded entry_status heading size_text picture_text refusal_text entry_lines entry_text joined output whole_case
computed = (refl, refl)

pub whole-case-output : output whole_case ≡ ascii "entry 0: 2 x 2\n9 12\n7 11\n"
whole-case-output = computed.0

-- the same body with one byte more: 12, and the place is the 8 bytes used
pub left-over-output : body_lines 0 (parameters_at whole_case 0) (body whole_case 0 ++ (0 ∷ [])) ≡ ascii "entry 0: refused 12 place 8\n"
left-over-output = computed.1
