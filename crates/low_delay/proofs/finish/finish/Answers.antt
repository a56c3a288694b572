-- `low_delay::finish::finish` meets its contract: the planes of an intra picture are predicted, and the answer is that of the definition.
use borrow.Author.Tests.{not-true, not-false}
use Rattle.slices.specs.Stores.{planes_behind}
use Rattle.low_delay.specs.Job.{outcome}
use Rattle.low_delay.proofs.JobLaws.{zeros-same, finished-inter, finished-intra, finished-out}
use Rattle.low_delay.proofs.finish.finish.Goals as goal

pub returns-then-not-picture-clause-ended : goal.returns-then-not-picture-clause-ended
unfolding outcome
returns-then-not-picture-clause-ended c = rw (c.slice_start-used.ensures.0, c.slice_count-count.ensures.0) (finished-inter _ _ (not-true _ c.if-not-picture.true))

pub returns-in-Ok-clause-ended : goal.returns-in-Ok-clause-ended
unfolding outcome
returns-in-Ok-clause-ended c =
    rw (c.slice_start-used.ensures.0, c.slice_count-count.ensures.0, c.in-Ok.ensures.done)
    (finished-intra _ _ (not-false _ c.if-not-picture.false) c.in-Ok.ensures.told)

pub returns-in-Err-clause-ended : goal.returns-in-Err-clause-ended
unfolding outcome
returns-in-Err-clause-ended c =
    let long = c.predict_planes.ensures.same.1 in
    let same = zeros-same (planes_behind c.predict_planes.new.planes) (planes_behind c.args.planes.now) long.0 long.1 long.2 in
    rw (c.slice_count-count.ensures.0, c.zero_planes.ensures.zeroed, same)
    (finished-out _ _ (not-false _ c.if-not-picture.false) c.in-Err.ensures.told)
