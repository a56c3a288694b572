-- `unpack::unpack` meets its contract: refused by a check or not, it ends as the job's definition says.
use mathlib.Core.Path.{◌≡◌, sym, ◌∙◌}
use lib.ListN.{length}
use Rattle.std.proofs.lemmas.Result.{err_from_is_err_and}
use Rattle.base.proofs.RefusalsLaws.{refusal-some}
use Rattle.component.specs.Checks.{refusal_of}
use Rattle.component.specs.declared.parameters.Job.TheVariants.{Unpack}
use Rattle.unpack.specs.Job.{outcome}
use Rattle.unpack.proofs.JobLaws.{job-refused, job_read, job-checked, job-fits}
use Rattle.unpack.proofs.Frame.{zeros-clear}
use Rattle.unpack.proofs.unpack.Goals as goal
use Rattle.unpack.proofs.unpack.Goals.{In_ok-check}

pub returns-in_err-check : goal.returns-in_err-check
unfolding outcome
returns-in_err-check c =
    let p = err_from_is_err_and c.from_residual.result c.from_residual.ensures.1 in
    rw (p.1, p.2, c.in_err-check.ensures) (sym (job-refused _ _ _ (λ none. refusal-some _ (c.in_err-check.ensures ∙ none))))

-- where no check refused
none : (c : In_ok-check) → refusal_of Unpack c.args.p (record { coefficients = length c.args.coefficients.now; work = 0; samples = 0 }) ≡ 0
none c = sym c.in_ok-check.ensures

pub read_subbands-requires : goal.read_subbands-requires
read_subbands-requires c =
    let plane = c.args.coefficients.now in
    (job-checked c.args.p plane (none (goal.at.read_subbands-requires c).In_ok-check), c.zero.auto.plane ∙ job-fits c.args.p plane (none (goal.at.read_subbands-requires c).In_ok-check), rw c.zero.ensures (zeros-clear c.args.p plane))

pub returns : goal.returns
returns c =
    c.read_subbands.ensures ∙ rw c.zero.ensures (sym (job_read c.args.p c.args.bytes.now c.args.coefficients.now (none (goal.at.returns c).In_ok-check)))
