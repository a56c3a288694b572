-- `lifting32::loops::lift_one` meets its contract: at x the first x numbers of the line are the new ones. What a turn reads is as it came, since the
-- line that is read is apart from the one that is changed.
use mathlib.Core.Path.{◌≡◌}
use Prim.Native.Nat.{◌+◌}
use lib.IntN.{pos, ◌+ℤ◌, ◌*ℤ◌}
use lib.ListN.{get_or}
use Rattle.lines.specs.Sums.{line_lifted}
use Rattle.lifting32.proofs.loops.lift_one.Given as goal

abbrev pub invariant-loop-x : goal.invariant-loop-x
invariant-loop-x l =
    l.plane ≡ line_lifted l.adds l.scale l.initial.plane l.start l.x (λ k. l.round +ℤ l.tap *ℤ get_or l.initial.plane (l.source + k) (pos 0))
