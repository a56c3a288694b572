-- `slices::parts::read_rows` meets its contract: values that were read into the run are put where they belong, and the run is cleared.
use mathlib.Core.Path.{◌≡◌}
use Rattle.std.specs.Prelude.{Err}
use Rattle.std.proofs.lemmas.Result.{err_from_is_err_and}
use Rattle.slices.proofs.ReadsLaws.{left-stopped, left-stored}
use Rattle.slices.proofs.parts.read_rows.Goals as goal

pub returns-in_err-bit-clause-read : goal.returns-in_err-bit-clause-read
returns-in_err-bit-clause-read c =
    let p = c.args.piece in
    let refused = err_from_is_err_and c.from_residual.result c.from_residual.ensures.1 in
    let told : c.read_run.result ≡ Err refused.0 = rw refused.2 c.in_err-bit.was in
    rw refused.1
    (left-stopped _ p.span _ p.holder p.area c.values_of-n.result _ _ c.values_of-n.ensures (rw c.values_of-n.ensures c.requires.fits.1) c.requires.reads.1 _ _ _ (rw told at c.read_run.ensures.read))

pub returns-clause-read : goal.returns-clause-read
returns-clause-read c =
    let p = c.args.piece in
    left-stored _ p.span _ p.holder p.area c.values_of-n.result _ _ c.values_of-n.ensures (rw c.values_of-n.ensures c.requires.fits.1) c.requires.reads.1
    _ _ _ _ (rw c.in_ok-bit.was at c.read_run.ensures.read) c.read_run.auto.run (c.read_run.ensures.inside _ c.in_ok-bit.was) c.store_rows.ensures.stored c.zero_part.ensures
