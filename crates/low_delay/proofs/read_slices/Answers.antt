use mathlib.Core.Path.{◌≡◌, refl, sym, ap, ◌∙◌}
use Prim.Native.Nat.{suc, ◌-◌}
use native.Mathlib.Numerals.{add-one}
use native.Mathlib.Omega.{arith}
use Rattle.base.specs.Refusals.{number_of}
use Rattle.slices.specs.Stores.{planes_behind}
use Rattle.slices.proofs.ReadsLaws.{blank-zeros, left-on}
use Rattle.slices.proofs.StoresLaws.{same_planes-then}
use Rattle.low_delay.specs.Job.{result, outcome}
use Rattle.low_delay.proofs.JobLaws.{zeros-same, slices-read, slices-refused, slices-over}
use Rattle.low_delay.proofs.read_slices.Goals as goal

pub loop-k-init : goal.loop-k-init
loop-k-init c =
    let whole : c.slice_count-count.result ≡ c.slice_count-count.result - 0 = omega arith in
    (omega arith, ((refl, refl, refl), (refl, refl, refl)), refl, blank-zeros, rw (← whole) refl)

pub loop-k-preserved : goal.loop-k-preserved
loop-k-preserved c =
    let inv = c.loop-k.invariant in
    let left = c.in_default.ensures.read in (
      omega (arith, c.loop-k-test),
      same_planes-then c.args.planes.now c.loop-k.planes c.read_slice.new.planes inv.1 c.read_slice.ensures.same,
      c.read_slice.auto.run ∙ inv.2,
      left.run_blank _ refl,
      inv.4 ∙ rw (add-one c.loop-k.k) (slices-read _ _ c.loop-k.k _ _ _ _ _ (omega (arith, c.loop-k-test)) (left-on _ _ _ _ _ left)),
    )

pub returns-in-Err-clause-ended : goal.returns-in-Err-clause-ended
unfolding outcome
returns-in-Err-clause-ended c =
    let count = c.slice_count-count.ensures.0 in
    let left : c.slice_count-count.result - c.loop-k.k ≡ suc (c.slice_count-count.result - suc c.loop-k.k) = omega (arith, c.loop-k-test) in
    let long = c.read_slice.ensures.same.1 in
    ap (result (number_of c.in-Err.fault.refusal) c.loop-k.k)
    (c.zero_planes.ensures.zeroed ∙ zeros-same _ (planes_behind c.loop-k.planes) long.0 long.1 long.2)
    ∙ sym (slices-refused _ _ c.loop-k.k _ _ _ _ _ left (sym c.in-Err.ensures.read.progress_is))
    ∙ sym c.loop-k.invariant.4 ∙ rw count refl

pub returns-clause-ended : goal.returns-clause-ended
returns-clause-ended c =
    let count = c.slice_count-count.ensures.0 in
    c.finish.ensures.ended
    ∙ sym (slices-over _ _ c.loop-k.k _ _ (omega (arith, c.loop-k.invariant.0, c.loop-k-test)))
    ∙ sym c.loop-k.invariant.4 ∙ rw count refl
