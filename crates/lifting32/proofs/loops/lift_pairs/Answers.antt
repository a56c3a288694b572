use mathlib.Core.Path.{◌≡◌, refl, sym, ◌∙◌}
use Prim.Native.Nat.{ℕ, ◌+◌, ◌<◌}
use native.Mathlib.Omega.{arith}
use lib.IntN.{ℤ, pos}
use lib.ListN.{get_or}
use mir.Syntax.{w32}
use mir.Val.{to_z, of_z}
use Rattle.base.proofs.FillLaws.{fill_none}
use Rattle.base.proofs.RangeLaws.{back}
use Rattle.lines.specs.Sums.{new_at}
use Rattle.lifting32.specs.Liftable.{lifted_by_pairs}
use Rattle.lifting32.specs.Pairs.{pair_sum}
use Rattle.lifting32.proofs.LiftableLaws.{outside, next, stored}
use Rattle.lifting32.proofs.PairsLaws.{same-fits, same_sum}
use Rattle.lifting32.proofs.loops.lift_pairs.Goals as goal
use Rattle.lifting32.proofs.loops.lift_pairs.Goals.{After-lifted, After-lifted-arg-1, After-pair_sum-sum, In-loop-x, Start}

pub loop-x-init : goal.loop-x-init
loop-x-init c = sym (fill_none _ _ _)

-- the call's start, the turn's entry, and the taps as they are handed on
abbrev begin : In-loop-x → Start
begin t = t.before.before.before

abbrev at : In-loop-x → ℕ
at t = t.loop-x.x

tap-0 : (s : Start) → to_z w32 (of_z w32 s.args.t0) ≡ s.args.t0
tap-0 s = back w32 s.args.t0 s.ranges.t0.sfits

tap-1 : (s : Start) → to_z w32 (of_z w32 s.args.t1) ≡ s.args.t1
tap-1 s = back w32 s.args.t1 s.ranges.t1.sfits

tap-2 : (s : Start) → to_z w32 (of_z w32 s.args.t2) ≡ s.args.t2
tap-2 s = back w32 s.args.t2 s.ranges.t2.sfits

tap-3 : (s : Start) → to_z w32 (of_z w32 s.args.t3) ≡ s.args.t3
tap-3 s = back w32 s.args.t3 s.ranges.t3.sfits

-- the numbers that a turn reads are those that came
as-came : (t : In-loop-x) (j : ℕ) → j < 8 → let i = get_or (begin t).args.paired.indices j 0 + at t in
    get_or t.loop-x.plane i (pos 0) ≡ get_or (begin t).args.plane.now i (pos 0)
as-came t j h = outside _ _ _ _ _ t.loop-x.invariant _ (λ k below. ((begin t).requires.reads j h).apart (at t) k t.loop-x-test.true (omega arith))

pub pair_sum-sum-requires : goal.pair_sum-sum-requires
pair_sum-sum-requires c =
    let s = begin (goal.at.pair_sum-sum-requires c).In-loop-x in
    rw (tap-0 s, tap-1 s, tap-2 s, tap-3 s)
    (same-fits _ _ _ _ _ _ _ _ c.loop-x.auto.plane (as-came (goal.at.pair_sum-sum-requires c).In-loop-x) (s.requires.pairs_fit (at (goal.at.pair_sum-sum-requires c).In-loop-x) c.loop-x-test.true))

-- the sum is the contract's
abbrev wanted : In-loop-x → ℕ → ℤ
wanted t = let a = (begin t).args in pair_sum a.plane.now a.paired a.t0 a.t1 a.t2 a.t3

sum : (c : After-pair_sum-sum) → to_z w32 (of_z w32 c.pair_sum-sum.result) ≡ wanted c.before (at c.before)
sum c =
    let s = begin c.before in
    back w32 _ c.pair_sum-sum.type_inv
    ∙ c.pair_sum-sum.ensures
    ∙ rw (tap-0 s, tap-1 s, tap-2 s, tap-3 s) (same_sum _ _ _ _ _ _ _ _ c.loop-x.auto.plane (as-came c.before))

-- the number that is changed is as it came
old : (c : After-lifted-arg-1) → let i = (begin c.before.before).args.paired.line.start + at c.before.before in
    to_z w32 (of_z w32 (get_or c.loop-x.plane i (pos 0))) ≡ get_or (begin c.before.before).args.plane.now i (pos 0)
old c = back w32 _ c.lifted-arg-1.given ∙ next _ _ _ _ _ c.loop-x.invariant

pub lifted-requires : goal.lifted-requires
lifted-requires c =
    let fits = (begin (goal.at.lifted-requires c).In-loop-x).requires.line_fits in
    (fits.scaled, rw (old (goal.at.lifted-requires c).After-lifted-arg-1, sum (goal.at.lifted-requires c).After-pair_sum-sum) (fits.new_fit (at (goal.at.lifted-requires c).In-loop-x) c.loop-x-test.true))

made : (c : After-lifted) → let a = (begin c.before.before.before).args in
    to_z w32 (of_z w32 c.lifted.result) ≡ new_at a.adds a.paired.line.scale a.plane.now a.paired.line.start (wanted c.before.before.before) (at c.before.before.before)
made c = back w32 _ c.lifted.type_inv ∙ c.lifted.ensures ∙ rw (old c.before, sum c.before.before) refl

pub loop-x-preserved : goal.loop-x-preserved
loop-x-preserved c =
    let s = begin (goal.at.loop-x-preserved c).In-loop-x in
    stored _ _ _ _ _ c.loop-x.invariant _ (made (goal.at.loop-x-preserved c).After-lifted ∙ rw (tap-0 s, tap-1 s, tap-2 s, tap-3 s) refl)

pub returns : goal.returns
unfolding lifted_by_pairs
returns c =
    let all : c.loop-x.x ≡ c.args.paired.line.width = omega arith in
    c.loop-x.invariant ∙ rw (all, tap-0 (goal.at.returns c).Start, tap-1 (goal.at.returns c).Start, tap-2 (goal.at.returns c).Start, tap-3 (goal.at.returns c).Start) refl
