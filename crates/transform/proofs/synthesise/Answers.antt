-- `transform::synthesise` meets its contract: refused, overflowed or accepted, each way ends as the job's definition says.
use mathlib.Core.Path.{◌≡◌, sym, ◌∙◌}
use borrow.Author.Tests.{not-false}
use Rattle.std.proofs.lemmas.Result.{err_from_is_err_and}
use Rattle.base.proofs.ListsLaws.{zeros-length}
use Rattle.base.proofs.RefusalsLaws.{refusal-some}
use Rattle.component.specs.Checks.{refusal_of, lengths_of}
use Rattle.component.specs.declared.parameters.Job.TheVariants.{Synthesise}
use Rattle.component.proofs.ChecksLaws.{passed}
use Rattle.transform.specs.Job.{outcome, unchanged, overflowed, accepted}
use Rattle.transform.proofs.JobLaws.{planes-fitted, job-refused, job-overflowed, job-accepted}
use Rattle.transform.proofs.synthesise.Goals as goal
use Rattle.transform.proofs.synthesise.Goals.{In_ok-check}

pub returns-in_err-check : goal.returns-in_err-check
unfolding outcome unchanged
returns-in_err-check c =
    let refused = err_from_is_err_and c.from_residual.result c.from_residual.ensures.1 in
    let told = c.in_err-check.ensures in
    rw (refused.1, refused.2, told) (sym (job-refused _ _ _ _ (λ none. refusal-some c.in_err-check.field-0.0 (told ∙ none))))

-- what is known where nothing was refused
none : (c : In_ok-check) → refusal_of Synthesise c.args.p (lengths_of c.args.coefficients.now c.args.work.now c.args.samples.now) ≡ 0
none c = sym c.in_ok-check.ensures

pub synthesise_picture-requires : goal.synthesise_picture-requires
synthesise_picture-requires c =
    let all = passed Synthesise _ _ (none (goal.at.synthesise_picture-requires c).In_ok-check) in
    let fit = planes-fitted _ _ all.planes-pass in
    record {
      p_value = (all.sizes-pass, all.depth-passes, not-false _ all.wavelet-passes);
      coefficients_len = (fit.coefficients-fit, fit.work-fits, fit.samples-fit);
    }

pub returns-in-Err : goal.returns-in-Err
unfolding outcome overflowed
returns-in-Err c =
    let bad = c.in-Err.ensures.told in
    rw (c.zero.ensures, c.zero-in-Err.ensures, zeros-length c.synthesise_picture.new.work c.args.work.now c.synthesise_picture.auto.work, zeros-length c.synthesise_picture.new.samples c.args.samples.now c.synthesise_picture.auto.samples, ← bad.0)
    (sym (job-overflowed c.args.p _ _ _ (none (goal.at.returns-in-Err c).In_ok-check) (λ fine. bad.1 (sym bad.0 ∙ fine))))

pub returns : goal.returns
unfolding outcome accepted
returns c =
    let made = c.in_default.ensures.done in
    rw (made.0, made.1) (sym (job-accepted c.args.p _ _ _ (none (goal.at.returns c).In_ok-check) c.in_default.ensures.told))
