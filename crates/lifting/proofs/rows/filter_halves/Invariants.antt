-- `lifting::rows::filter_halves` meets its contract: after some turns the row is what as many steps make of it, and their new numbers fit; the halves
-- keep to the bounds.
use mathlib.Core.Path.{◌≡◌}
use mathlib.Core.Bool.{true}
use mathlib.Core.List.{map}
use Prim.Native.Nat.{◌*◌}
use lib.ListN.{take}
use Rattle.lines.specs.Buffers.{interleaved}
use Rattle.filters.specs.Pictures.{Agree}
use Rattle.filters.specs.Passes.{rows, run_all, all_new_fit}
use Rattle.lifting.specs.LineBounds.{HalvesWithin}
use Rattle.filters.specs.Table.{filter_from}
use Rattle.lifting.proofs.rows.filter_halves.Given as goal

abbrev pub invariant-loop-step : goal.invariant-loop-step
invariant-loop-step l =
    let passes = take l.step-index (map rows (filter_from l.fn.filter).steps) in
    (all_new_fit 1 (2 * l.half) passes (λ row. interleaved l.initial.halves) ≡ true)
    × Agree 1 (2 * l.half) (λ row. interleaved l.halves) (run_all 1 (2 * l.half) passes (λ row. interleaved l.initial.halves))
    × HalvesWithin l.half l.bounds l.halves
