-- `recording::entry_text` meets its contract: the entry's body is a part of the file, and its planes are parts of the program's.
use mathlib.Core.Path.{sym, ◌∙◌}
use native.Mathlib.Omega.{arith}
use lib.Seq.{length-take-le}
use Rattle.contents.proofs.TableLaws.{part-inside, part-is-body}
use Rattle.recording.proofs.OutputLaws.{plane_most, sample_most}
use Rattle.recording.proofs.OutputLaws.{text_of}
use borrow.Author.Rules.{rules}
use Rattle.recording.proofs.entry_text.Goals as goal

pub overflow_add-end : goal.overflow_add-end
overflow_add-end c =
    omega (arith, part-inside c.args.file.now c.args.k c.requires.k_bound c.entry_at-entry.result c.entry_at-entry.ensures)

pub slice_bounds-decoded_text-end : goal.slice_bounds-decoded_text-end
slice_bounds-decoded_text-end c =
    let inside = part-inside c.args.file.now c.args.k c.requires.k_bound c.entry_at-entry.result c.entry_at-entry.ensures in
    search rules

pub slice_bounds-decoded_text-end-3 : goal.slice_bounds-decoded_text-end-3
slice_bounds-decoded_text-end-3 c = sym (length-take-le _ _ (omega (arith, c.plane_length-area.ensures, plane_most c.entry_at-entry.result.parameters, c.requires.coefficients_len.0)))

pub slice_bounds-decoded_text-end-5 : goal.slice_bounds-decoded_text-end-5
slice_bounds-decoded_text-end-5 c = sym (length-take-le _ _ (omega (arith, c.plane_length-area.ensures, plane_most c.entry_at-entry.result.parameters, c.requires.coefficients_len.1)))

pub slice_bounds-decoded_text-end-7 : goal.slice_bounds-decoded_text-end-7
slice_bounds-decoded_text-end-7 c = sym (length-take-le _ _ (omega (arith, c.sample_length-count.ensures, sample_most c.entry_at-entry.result.parameters, c.requires.coefficients_len.2)))

pub decoded_text-requires : goal.decoded_text-requires
decoded_text-requires c =
    let p = c.entry_at-entry.result.parameters in
    let area = c.plane_length-area.ensures in
    let count = c.sample_length-count.ensures in
    let lengths = c.requires.coefficients_len in record {
      coefficients_len = (
        length-take-le _ _ (omega (arith, area, plane_most p, lengths.0)) ∙ area,
        length-take-le _ _ (omega (arith, area, plane_most p, lengths.1)) ∙ area,
        length-take-le _ _ (omega (arith, count, sample_most p, lengths.2)) ∙ count,
      );
      no_text = c.requires.no_text;
      text_len = c.requires.text_len;
    }

pub returns : goal.returns
returns c =
    let file = c.args.file.now in
    let bytes = part-is-body file c.args.k c.requires.k_bound c.entry_at-entry.result c.entry_at-entry.ensures in
    rw (← text_of file c.args.k c.entry_at-entry.result c.entry_at-entry.ensures _ bytes) c.decoded_text.ensures
