-- `decode::decode` meets its contract: whichever of its two jobs ends it, the planes are as the job's definition says.
use mathlib.Core.Path.{◌≡◌, refl, sym, ◌∙◌}
use Rattle.std.proofs.lemmas.Result.{err_from_is_err_and}
use Rattle.base.proofs.RefusalsLaws.{refusal-some}
use Rattle.component.specs.Checks.{refusal_of, lengths_of}
use Rattle.component.specs.declared.parameters.Job.TheVariants.{Decode}
use Rattle.decode.specs.Job.{outcome, unchanged}
use Rattle.decode.proofs.JobLaws.{refused-by-check, refused-by-bytes, refused-by-synthesis, job-accepted}
use Rattle.decode.proofs.decode.Goals as goal
use Rattle.decode.proofs.decode.Goals.{In_ok-check}

pub returns-in_err-check : goal.returns-in_err-check
unfolding outcome unchanged
returns-in_err-check c =
    let refused = err_from_is_err_and c.from_residual.result c.from_residual.ensures.1 in
    rw (refused.1, refused.2, c.in_err-check.ensures) (refused-by-check _ _ _ _ _ (λ none. refusal-some _ (c.in_err-check.ensures ∙ none)))

-- where no check refused
none : (c : In_ok-check) → refusal_of Decode c.args.p (lengths_of c.args.coefficients.now c.args.work.now c.args.samples.now) ≡ 0
none c = sym c.in_ok-check.ensures

pub returns-in-Err : goal.returns-in-Err
returns-in-Err c =
    rw (c.zero.ensures, c.zero-in-Err.ensures)
    (refused-by-bytes _ _ _ _ _ (none (goal.at.returns-in-Err c).In_ok-check) _ c.unpack.new.coefficients c.in-Err.ensures c.unpack.auto.coefficients (refusal-some _))

pub returns-in-Err-synthesise : goal.returns-in-Err-synthesise
returns-in-Err-synthesise c =
    rw c.zero-in-Err-synthesise.ensures
    (refused-by-synthesis _ _ _ _ _ (none (goal.at.returns-in-Err-synthesise c).In_ok-check) _ c.unpack.new.coefficients c.in-Ok.ensures c.unpack.auto.coefficients refl
    _ _ _ c.in-Err-synthesise.ensures (refusal-some _))

pub returns : goal.returns
returns c =
    job-accepted _ _ _ _ _ (none (goal.at.returns c).In_ok-check) _ c.unpack.new.coefficients c.in-Ok.ensures c.unpack.auto.coefficients refl
    _ _ _ c.in_default.ensures refl
