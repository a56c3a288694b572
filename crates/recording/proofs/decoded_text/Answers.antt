-- `recording::decoded_text` meets its contract: what decode gives is what the entry's lines tell, whatever stood in the planes.
use mathlib.Core.Path.{sym, ap, ◌∙◌}
use Rattle.decode.specs.Job.{DecodeResult, outcome}
use Rattle.recording.proofs.OutputLaws.{samples-fit, entry-accepted, lines_of}
use Rattle.recording.proofs.decoded_text.Goals as goal

pub put_entry-requires-clause-samples_len : goal.put_entry-requires-clause-samples_len
unfolding outcome
put_entry-requires-clause-samples_len c fine =
    let decoded = entry-accepted _ _ _ (sym c.entry_result.ensures.status ∙ fine) in
    let fit = samples-fit _ _ _ _ _ c.requires.coefficients_len.0 (sym (ap (λ (d : DecodeResult). d.status) c.decode-decoded.ensures) ∙ decoded) in
    (c.decode-decoded.auto.samples ∙ fit.0, fit.1, fit.2)

pub returns : goal.returns
returns c =
    let same = lines_of _ _ _ _ _ c.requires.coefficients_len.0 c.requires.coefficients_len.1 c.requires.coefficients_len.2 c.args.k _ _ _ _ c.decode-decoded.ensures _ c.entry_result.ensures.status c.entry_result.ensures.place in
    rw (← same) c.put_entry.ensures
