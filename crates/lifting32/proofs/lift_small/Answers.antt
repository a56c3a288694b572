-- `lifting32::lift_small` meets its contract: one tap is lifted as such, and other taps are those of their pairs.
use mathlib.Core.Path.{◌≡◌, ◌∙◌}
use Prim.Native.Nat.{◌*◌, ◌/◌}
use native.Mathlib.Omega.{arith}
use mir.Syntax.{w32}
use mir.Val.{to_z, of_z}
use Rattle.base.proofs.RangeLaws.{back}
use Rattle.lifting32.specs.Pairs.{pair_tap}
use Rattle.lifting32.proofs.LiftableLaws.{any-numbers, taps-fit, by-pairs, lifted-pairs}
use Rattle.lifting32.proofs.lift_small.Goals as goal
use Rattle.lifting32.proofs.lift_small.Goals.{After-pair_tap, After-pair_tap-in-4, After-pair_tap-inner, In_default}

pub lift_single-requires : goal.lift_single-requires
lift_single-requires c = rw c.in-1.is at (any-numbers c.requires)

pub pair_tap-requires : goal.pair_tap-requires
pair_tap-requires c = taps-fit c.requires 1 c.in-2.is

one : (c : After-pair_tap) → to_z w32 (of_z w32 c.pair_tap.result) ≡ pair_tap c.args.taps.now 1 0
one c = back w32 _ c.pair_tap.type_inv ∙ c.pair_tap.ensures

pub lift_one_pair-requires : goal.lift_one_pair-requires
unfolding pair_tap
lift_one_pair-requires c =
    rw (one (goal.at.lift_one_pair-requires c).After-pair_tap) (by-pairs c.requires 1 c.in-2.is c.paired_line-paired.ensures)

pub pair_tap-inner-requires : goal.pair_tap-inner-requires
pair_tap-inner-requires c = taps-fit c.requires 2 c.in-4.is

pub pair_tap-requires-in-4 : goal.pair_tap-requires-in-4
pair_tap-requires-in-4 c = taps-fit c.requires 2 c.in-4.is

inner : (c : After-pair_tap-inner) → to_z w32 (of_z w32 c.pair_tap-inner.result) ≡ pair_tap c.args.taps.now 2 0
inner c = back w32 _ c.pair_tap-inner.type_inv ∙ c.pair_tap-inner.ensures

outer : (c : After-pair_tap-in-4) → to_z w32 (of_z w32 c.pair_tap-in-4.result) ≡ pair_tap c.args.taps.now 2 1
outer c = back w32 _ c.pair_tap-in-4.type_inv ∙ c.pair_tap-in-4.ensures

pub lift_two_pairs-requires : goal.lift_two_pairs-requires
unfolding pair_tap
lift_two_pairs-requires c =
    rw (inner (goal.at.lift_two_pairs-requires c).After-pair_tap-inner, outer (goal.at.lift_two_pairs-requires c).After-pair_tap-in-4) (by-pairs (any-numbers c.requires) 2 c.in-4.is c.paired_line-paired-in-4.ensures)

-- more taps are an even count
even : (c : In_default) → let n = c.args.count in n ≡ 2 * (n / 2)
even c = c.requires.symmetric.0 c.in_default.in_default-own.rest.0.0.1

pub paired_line-paired-requires-in_default : goal.paired_line-paired-requires-in_default
paired_line-paired-requires-in_default c = omega (arith, c.requires.few_taps, c.requires.some_taps, even (goal.at.paired_line-paired-requires-in_default c).In_default)

pub lift_more_pairs-requires : goal.lift_more_pairs-requires
lift_more_pairs-requires c =
    let n = c.args.count in
    (taps-fit c.requires (n / 2) (even (goal.at.lift_more_pairs-requires c).In_default), by-pairs c.requires (n / 2) (even (goal.at.lift_more_pairs-requires c).In_default) c.paired_line-paired-in_default.ensures)

pub returns-in-1 : goal.returns-in-1
returns-in-1 c = rw c.in-1.is c.lift_single.ensures

pub returns-in-2 : goal.returns-in-2
unfolding pair_tap
returns-in-2 c =
    rw (one (goal.at.returns-in-2 c).After-pair_tap) at c.lift_one_pair.ensures ∙ lifted-pairs c.requires 1 c.in-2.is c.paired_line-paired.ensures

pub returns-in-4 : goal.returns-in-4
unfolding pair_tap
returns-in-4 c =
    rw (inner (goal.at.returns-in-4 c).After-pair_tap-inner, outer (goal.at.returns-in-4 c).After-pair_tap-in-4) at c.lift_two_pairs.ensures
    ∙ lifted-pairs c.requires 2 c.in-4.is c.paired_line-paired-in-4.ensures

pub returns-in_default : goal.returns-in_default
returns-in_default c =
    c.lift_more_pairs.ensures
    ∙ lifted-pairs c.requires (c.args.count / 2) (even (goal.at.returns-in_default c).In_default) c.paired_line-paired-in_default.ensures
