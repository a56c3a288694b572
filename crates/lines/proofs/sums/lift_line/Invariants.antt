-- `lines::sums::lift_line` meets its contract: at x the first x numbers are the new ones, all of them within 32 bits, and the others as they came.
use mathlib.Core.Path.{◌≡◌}
use mathlib.Core.Bool.{true}
use Rattle.lines.specs.Sums.{number_at, line_lifted, line_fits}
use Rattle.lines.proofs.sums.lift_line.Given as goal

abbrev pub invariant-loop-x : goal.invariant-loop-x
invariant-loop-x l =
    (l.line ≡ line_lifted l.adds l.scale l.initial.line l.start l.x (number_at l.sums))
    × (line_fits l.adds l.scale l.initial.line l.start l.x (number_at l.sums) ≡ true)
