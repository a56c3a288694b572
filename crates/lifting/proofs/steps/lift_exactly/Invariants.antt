-- `lifting::steps::lift_exactly` meets its contract: after some turns the first numbers of the line are lifted, and the rest is as it was.
use mathlib.Core.Path.{◌≡◌}
use mathlib.Core.Bool.{true}
use Prim.Native.Nat.{◌-◌, ◌≤◌}
use lib.ListN.{length}
use Rattle.base.specs.Every.{all_below}
use Rattle.base.specs.Fill.{fill}
use Rattle.base.specs.Range.{fits32}
use Rattle.lifting.specs.Lines.{line_new}
use Rattle.lifting.proofs.steps.lift_exactly.Given as goal

abbrev pub invariant-loop-done : goal.invariant-loop-done
invariant-loop-done l =
    (l.done ≤ l.width)
    × (length l.plane ≡ length l.initial.plane)
    × (l.plane ≡ fill l.initial.plane l.start l.done (line_new l.step l.starts l.initial.plane l.start))
    × (all_below l.done (λ x. fits32 (line_new l.step l.starts l.initial.plane l.start x)) ≡ true)

abbrev pub decreases-loop-done : goal.decreases-loop-done
decreases-loop-done l = l.width - l.done
