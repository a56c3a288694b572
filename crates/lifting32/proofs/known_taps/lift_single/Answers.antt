-- `lifting32::known_taps::lift_single` meets its contract: each branch is the same call, by the first tap.
use mathlib.Core.Path.{◌≡◌, ◌∙◌}
use Prim.Native.Nat.{◌^◌, ◌<◌}
use native.Mathlib.Omega.{arith}
use lib.IntN.{pos}
use lib.ListN.{get_or}
use lib.Signed.{mag}
use mir.Syntax.{w32, w64}
use mir.Val.{to_z, of_z}
use Rattle.base.proofs.Integers.{mag-size}
use Rattle.base.proofs.RangeLaws.{back}
use Rattle.lifting32.proofs.LiftableLaws.{by_one, lifted-one}
use Rattle.lifting32.proofs.known_taps.lift_single.Goals as goal
use Rattle.lifting32.proofs.known_taps.lift_single.Goals.{Start}

-- the tap as it is handed on
tap : (s : Start) → to_z w32 (of_z w32 (to_z w64 (of_z w64 (get_or s.args.taps.now 0 (pos 0))))) ≡ get_or s.args.taps.now 0 (pos 0)
tap s =
    let t = get_or s.args.taps.now 0 (pos 0) in
    let small : mag t < 2 ^ 31 = omega (arith, s.requires.small_taps 0 (omega arith), mag-size t) in
    rw (back w64 t (omega (arith, small))) (back w32 t small)

pub lift_one-requires : goal.lift_one-requires
lift_one-requires c = rw (tap (goal.at.lift_one-requires c).Start) (by_one c.requires)

pub returns-then-adds : goal.returns-then-adds
returns-then-adds c = rw (tap (goal.at.returns-then-adds c).Start) at c.lift_one.ensures ∙ lifted-one c.requires

pub lift_one-requires-then-tap-eq1 : goal.lift_one-requires-then-tap-eq1
lift_one-requires-then-tap-eq1 c = rw (tap (goal.at.lift_one-requires-then-tap-eq1 c).Start) (by_one c.requires)

pub returns-then-tap-eq1 : goal.returns-then-tap-eq1
returns-then-tap-eq1 c = rw (tap (goal.at.returns-then-tap-eq1 c).Start) at c.lift_one-then-tap-eq1.ensures ∙ lifted-one c.requires

pub lift_one-requires-2 : goal.lift_one-requires-2
lift_one-requires-2 c = rw (tap (goal.at.lift_one-requires-2 c).Start) (by_one c.requires)

pub returns : goal.returns
returns c = rw (tap (goal.at.returns c).Start) at c.lift_one-2.ensures ∙ lifted-one c.requires
