-- `lifting32::loops::pair_sum` meets its contract: each pair has room beside the sum of those before it.
use mathlib.Core.Path.{◌≡◌, refl, ◌∙◌}
use Prim.Native.Nat.{ℕ}
use lib.IntN.{ℤ, ◌+ℤ◌, ◌*ℤ◌}
use mir.Syntax.{w32}
use mir.Val.{to_z, of_z}
use Rattle.base.proofs.RangeLaws.{back}
use Rattle.lifting32.specs.Pairs.{pair_at, pair_sum}
use Rattle.lifting32.proofs.PairsLaws.{first_fits, second_fits, third-fits, fourth-fits}
use Rattle.lifting32.proofs.loops.pair_sum.Goals as goal
use Rattle.lifting32.proofs.loops.pair_sum.Goals.{After-struct_told-1, After-with_outer_pair-s1, After-with_outer_pair-s2, After-with_pair-s0, Start}

-- what each pair gives
abbrev gives : Start → ℤ → ℕ → ℤ
gives s tap j = tap *ℤ pair_at s.args.plane.now s.args.paired s.args.x j

-- the arguments as they are handed on
round : (c : After-struct_told-1) → to_z w32 (of_z w32 c.args.paired.line.round) ≡ c.args.paired.line.round
round c = back w32 _ c.struct_told-1.given.1.1.0.1

tap-0 : (s : Start) → to_z w32 (of_z w32 s.args.t0) ≡ s.args.t0
tap-0 s = back w32 s.args.t0 s.ranges.t0.sfits

tap-1 : (s : Start) → to_z w32 (of_z w32 s.args.t1) ≡ s.args.t1
tap-1 s = back w32 s.args.t1 s.ranges.t1.sfits

tap-2 : (s : Start) → to_z w32 (of_z w32 s.args.t2) ≡ s.args.t2
tap-2 s = back w32 s.args.t2 s.ranges.t2.sfits

tap-3 : (s : Start) → to_z w32 (of_z w32 s.args.t3) ≡ s.args.t3
tap-3 s = back w32 s.args.t3 s.ranges.t3.sfits

pub with_pair-s0-requires : goal.with_pair-s0-requires
with_pair-s0-requires c = rw (round (goal.at.with_pair-s0-requires c).After-struct_told-1, tap-0 (goal.at.with_pair-s0-requires c).Start) (first_fits c.requires).1

sum-1 : (c : After-with_pair-s0) → to_z w32 (of_z w32 c.with_pair-s0.result) ≡ c.args.paired.line.round +ℤ gives c.before.before.before.before c.args.t0 0
sum-1 c =
    back w32 _ c.with_pair-s0.type_inv ∙ c.with_pair-s0.ensures ∙ rw (round c.before.before, tap-0 c.before.before.before.before) refl

pub with_outer_pair-s1-requires : goal.with_outer_pair-s1-requires
with_outer_pair-s1-requires c = rw (sum-1 (goal.at.with_outer_pair-s1-requires c).After-with_pair-s0, tap-1 (goal.at.with_outer_pair-s1-requires c).Start) (second_fits c.requires)

sum-2 : (c : After-with_outer_pair-s1) → to_z w32 (of_z w32 c.with_outer_pair-s1.result) ≡ (c.args.paired.line.round +ℤ gives c.before.before.before.before.before c.args.t0 0) +ℤ gives c.before.before.before.before.before c.args.t1 1
sum-2 c =
    back w32 _ c.with_outer_pair-s1.type_inv ∙ c.with_outer_pair-s1.ensures ∙ rw (sum-1 c.before, tap-1 c.before.before.before.before.before) refl

pub with_outer_pair-s2-requires : goal.with_outer_pair-s2-requires
with_outer_pair-s2-requires c = rw (sum-2 (goal.at.with_outer_pair-s2-requires c).After-with_outer_pair-s1, tap-2 (goal.at.with_outer_pair-s2-requires c).Start) (third-fits c.requires)

sum-3 : (c : After-with_outer_pair-s2) → to_z w32 (of_z w32 c.with_outer_pair-s2.result)
    ≡ ((c.args.paired.line.round +ℤ gives c.before.before.before.before.before.before c.args.t0 0) +ℤ gives c.before.before.before.before.before.before c.args.t1 1) +ℤ gives c.before.before.before.before.before.before c.args.t2 2
sum-3 c =
    back w32 _ c.with_outer_pair-s2.type_inv ∙ c.with_outer_pair-s2.ensures ∙ rw (sum-2 c.before, tap-2 c.before.before.before.before.before.before) refl

pub with_outer_pair-requires : goal.with_outer_pair-requires
with_outer_pair-requires c = rw (sum-3 (goal.at.with_outer_pair-requires c).After-with_outer_pair-s2, tap-3 (goal.at.with_outer_pair-requires c).Start) (fourth-fits c.requires)

pub returns : goal.returns
unfolding pair_sum
returns c =
    back w32 _ c.with_outer_pair.type_inv ∙ c.with_outer_pair.ensures ∙ rw (sum-3 (goal.at.returns c).After-with_outer_pair-s2, tap-3 (goal.at.returns c).Start) refl
