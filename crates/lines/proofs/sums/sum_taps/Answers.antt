use mathlib.Core.Path.{◌≡◌, ◌∙◌}
use mathlib.Core.List.{◌++◌}
use Prim.Native.Nat.{ℕ, ◌+◌, ◌*◌, ◌^◌, ◌<◌}
use native.Mathlib.Omega.{arith}
use lib.IntN.{pos, ◌+ℤ◌, ◌*ℤ◌}
use lib.ListN.{length, get_or, replicate, take, drop}
use mir.Syntax.{w64}
use mir.Val.{to_z, of_z}
use Rattle.std.proofs.Common.{length-append, length-take}
use Rattle.std.proofs.lemmas.List.{get_or_append_left, get_or-replicate}
use Rattle.base.proofs.FillLaws.{get_d-fill-start}
use Rattle.base.proofs.RangeLaws.{back}
use Rattle.lines.specs.Sums.{tap_at}
use Rattle.lines.proofs.SumsLaws.{sum-none, sum_more}
use Rattle.lines.proofs.sums.sum_taps.Goals as goal
use Rattle.lines.proofs.sums.sum_taps.Goals.{After-add_tap, After-fill}

-- each sum starts with the number
started : (c : After-fill) (x : ℕ) → x < c.args.width → get_or (c.fill.new.self ++ drop c.args.width c.args.sums.now) x (pos 0) ≡ to_z w64 (of_z w64 c.args.round)
started c x h =
    let all : c.fill.new.self ≡ replicate (length (take c.args.width c.args.sums.now)) (to_z w64 (of_z w64 c.args.round)) = c.fill.ensures.after (λ y e. e) in
    let some : x < length (take c.args.width c.args.sums.now) = omega (arith, length-take c.args.width c.args.sums.now) in
    let stored : x < length c.fill.new.self = omega (arith, c.fill.ensures.len) in
    get_or_append_left c.fill.new.self (drop c.args.width c.args.sums.now) (pos 0) x stored ∙ rw all (get_or-replicate _ x _ (pos 0) some)

pub loop-t-init : goal.loop-t-init
loop-t-init c = (
  omega (arith, length-append c.fill.new.self (drop c.args.width c.args.sums.now), length-take c.args.width c.args.sums.now, c.fill.ensures.len),
  λ x h. started c x h ∙ sum-none _ _,
  λ x h. rw (started c x h, back w64 c.args.round c.ranges.round.sfits) c.requires.width_bound.2,
)

-- that the tap was added
added : (c : After-add_tap) (x : ℕ) → x < c.args.width
    → get_or c.add_tap.new.sums x (pos 0) ≡ get_or c.loop-t.sums x (pos 0) +ℤ tap_at c.args.taps.now c.args.starts.now c.args.source.now x c.loop-t.t
unfolding tap_at
added c x h =
    let tap = get_or c.args.taps.now c.loop-t.t (pos 0) in
    let from = get_or c.args.starts.now c.loop-t.t 0 in
    rw (c.add_tap.ensures.summed, back w64 tap c.add_tap-arg-in-loop-t-2-1.given)
    (get_d-fill-start c.loop-t.sums (λ k. get_or c.loop-t.sums k (pos 0) +ℤ tap *ℤ get_or c.args.source.now (from + k) (pos 0)) c.args.width x (pos 0) h (omega arith))

pub loop-t-preserved : goal.loop-t-preserved
loop-t-preserved c =
    let round = to_z w64 (of_z w64 c.args.round) in (
      omega (arith, c.add_tap.array_long),
      λ x h. added c x h ∙ rw (c.loop-t.invariant.1 x h) (sum_more round (tap_at c.args.taps.now c.args.starts.now c.args.source.now x) c.loop-t.t),
      λ x h. omega (arith, c.add_tap.ensures.small (2 ^ 44 * (c.loop-t.t + 1)) c.loop-t.invariant.2 x h),
    )
