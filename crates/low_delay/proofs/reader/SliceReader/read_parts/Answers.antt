-- `low_delay::reader::SliceReader::read_parts` meets its contract: the second part is read where the first was, and the slice then goes on at its end.
use Rattle.std.proofs.lemmas.Result.{err_from_is_err_and}
use Rattle.slices.proofs.PartsLaws.{first-stopped, second-stopped, both_read}
use Rattle.slices.proofs.ReadsLaws.{left-on}
use Rattle.low_delay.proofs.reader.SliceReader.read_parts.Goals as goal

pub returns-in_err-read_part-clause-read : goal.returns-in_err-read_part-clause-read
returns-in_err-read_part-clause-read c =
    let refused = err_from_is_err_and c.from_residual.result c.from_residual.ensures.1 in
    rw (refused.1, refused.2)
    (λ at. first-stopped _ _ _ _ _ _ _ _ _ _ _ _ _ _ _ c.in_err-read_part.ensures.read)

pub returns-in_err-read_part-2-clause-read : goal.returns-in_err-read_part-2-clause-read
returns-in_err-read_part-2-clause-read c =
    let refused = err_from_is_err_and c.from_residual-in_err-read_part-2.result c.from_residual-in_err-read_part-2.ensures.1 in
    rw (refused.1, refused.2)
    (λ at. second-stopped _ _ _ _ _ _ _ _ _ _ _ _ (left-on _ _ _ _ _ c.in_ok-read_part.ensures.read)
    _ _ _ _ _ c.in_err-read_part-2.ensures.read)

pub returns-clause-read : goal.returns-clause-read
returns-clause-read c =
    λ at. both_read _ _ _ _ _ _ _ _ _ _ _ _ (left-on _ _ _ _ _ c.in_ok-read_part.ensures.read)
    _ _ _ _ c.in_ok-read_part-2.ensures.read
