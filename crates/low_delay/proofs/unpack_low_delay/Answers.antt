-- `low_delay::unpack_low_delay` meets its contract: refused by a check or not, it ends as the job's definition says.
use mathlib.Core.Path.{◌≡◌, refl, sym, ◌∙◌}
use Rattle.std.proofs.Common.{rules}
use Rattle.std.proofs.lemmas.Result.{err_from_is_err_and}
use Rattle.base.proofs.RefusalsLaws.{refusal-some}
use Rattle.slices.specs.Planes.{planes_of}
use Rattle.slices.proofs.PartsLaws.{lengths-same}
use Rattle.low_delay.specs.Job.{outcome, refusal_of, unpacked}
use Rattle.component.specs.Answers.{answer_of}
use Rattle.low_delay.proofs.JobLaws.{passed, job-refused, job_read}
use Rattle.low_delay.proofs.unpack_low_delay.Goals as goal
use Rattle.low_delay.proofs.unpack_low_delay.Goals.{In_ok-check}

pub returns-in_err-check : goal.returns-in_err-check
unfolding outcome
returns-in_err-check c =
    let refused = err_from_is_err_and c.from_residual.result c.from_residual.ensures.1 in
    let told = c.in_err-check.ensures (planes_of c.args.luma.now c.args.first.now c.args.second.now) (record { luma_long = refl; first_long = refl; second_long = refl }) in
    rw (refused.1, refused.2) (job-refused _ _ _ _ told (refusal-some c.in_err-check.field-0.0))

-- where no check refused
none : (c : In_ok-check) → refusal_of c.args.p (planes_of c.args.luma.now c.args.first.now c.args.second.now) ≡ 0
none c = sym (c.in_ok-check.ensures _ (record { luma_long = refl; first_long = refl; second_long = refl }))

pub read_slices-requires : goal.read_slices-requires
read_slices-requires c =
    let checks = passed _ _ (none (goal.at.read_slices-requires c).In_ok-check) in
    (checks.picture, checks.fraction, lengths-same _ _ _ c.zero_planes.ensures.same.1 checks.lengths)

pub returns : goal.returns
returns c =
    let after = c.read_slices.new.planes in
    let all : outcome (answer_of c.read_slices.result) after.luma.now after.first.now after.second.now ≡ unpacked c.args.p c.args.bytes.now (planes_of c.args.luma.now c.args.first.now c.args.second.now) =
    c.read_slices.ensures.ended ∙ rw c.zero_planes.ensures.zeroed (job_read c.args.p c.args.bytes.now _ (none (goal.at.returns c).In_ok-check)) in
    search (rules, all)
