use mathlib.Core.Path.{◌≡◌, sym, ap, ◌∙◌}
use Prim.Native.Nat.{ℕ, suc, ◌+◌, ◌-◌, ◌<◌}
use native.Mathlib.Omega.{arith}
use Rattle.component.specs.Subbands.{subband_count}
use Rattle.component.proofs.ChecksLaws.{depth_most}
use Rattle.coefficients.specs.Reading.{progress_of}
use Rattle.unpack.specs.Job.{outcome, ended_with, subbands_from}
use Rattle.unpack.proofs.JobLaws.{subbands-end, subbands-read}
use Rattle.unpack.proofs.Within.{subband-bits-most}
use Rattle.unpack.proofs.Frame.{clear_next}
use Rattle.unpack.proofs.read_subbands.Goals as goal
use Rattle.unpack.proofs.read_subbands.Goals.{After-read_subband, In-loop-k}

pub subband_count-count-requires : goal.subband_count-count-requires
subband_count-count-requires c =
    depth_most c.args.p c.requires.0.depth

-- a subband that is left
in-turn : (c : In-loop-k) → c.loop-k.k < subband_count c.args.p.depth
in-turn c = omega (arith, c.loop-k-test, c.subband_count-count.ensures)

pub read_subband-requires : goal.read_subband-requires
read_subband-requires c =
    let inv = c.loop-k.invariant in
    let below = in-turn (goal.at.read_subband-requires c).In-loop-k in (
      below,
      inv.1 ∙ c.requires.1,
      inv.2.each c.loop-k.k (omega arith) below,
      omega (arith, inv.0, below, depth_most c.args.p c.requires.0.depth),
    )

-- it, with those after it, gives what all of them give
whole : (c : After-read_subband) →
    ended_with c.loop-k.k (progress_of c.read_subband.result) c.read_subband.new.plane (subbands_from c.args.p c.args.bytes.now (c.subband_count-count.result - (c.loop-k.k + 1)) (c.loop-k.k + 1))
    ≡ subbands_from c.args.p c.args.bytes.now c.subband_count-count.result 0 0 c.args.plane.now
whole c =
    let left : suc (c.subband_count-count.result - (c.loop-k.k + 1)) ≡ c.subband_count-count.result - c.loop-k.k = omega (arith, c.loop-k-test) in
    subbands-read _ _ c.loop-k.k c.loop-k.at _ (c.subband_count-count.result - (c.loop-k.k + 1)) _ _ c.read_subband.ensures
    ∙ ap (λ (n : ℕ). subbands_from c.args.p c.args.bytes.now n c.loop-k.k c.loop-k.at c.loop-k.plane) left
    ∙ c.loop-k.invariant.3

pub loop-k-preserved : goal.loop-k-preserved
unfolding ended_with
loop-k-preserved c =
    let inv = c.loop-k.invariant in
    let told = c.in-Ok.is in
    let read = c.read_subband.ensures in
    let below = in-turn (goal.at.loop-k-preserved c).In-loop-k in (
      omega (arith, (subband-bits-most _ _ _ _ _ _ _ (rw told at read)).bits_most, inv.0),
      c.read_subband.auto.plane ∙ inv.1,
      clear_next _ _ c.requires.0 _ _ _ _ below read inv.2,
      rw told at (whole (goal.at.loop-k-preserved c).After-read_subband),
    )

pub returns-in-Err : goal.returns-in-Err
unfolding outcome ended_with
returns-in-Err c =
    rw (c.zero.ensures, ← c.subband_count-count.ensures) (rw c.in-Err.is at (whole (goal.at.returns-in-Err c).After-read_subband))

pub returns : goal.returns
unfolding outcome
returns c =
    let none : c.subband_count-count.result - c.loop-k.k ≡ 0 = omega (arith, c.loop-k-test) in
    rw (← c.subband_count-count.ensures)
    (sym (ap (λ (n : ℕ). subbands_from c.args.p c.args.bytes.now n c.loop-k.k c.loop-k.at c.loop-k.plane) none ∙ subbands-end _ _ _ _ _) ∙ c.loop-k.invariant.3)
