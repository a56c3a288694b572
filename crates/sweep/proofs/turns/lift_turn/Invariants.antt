-- `sweep::turns::lift_turn` meets its contract: after i turns the first i steps have come to their pairs.
use mathlib.Core.Path.{◌≡◌}
use Prim.Native.Nat.{ℕ, suc, ◌+◌, ◌*◌, ◌^◌, ◌≤◌, ◌<◌}
use Rattle.filters.specs.Passes.{Picture}
use Rattle.sweep.specs.Pairs.{EachPair}
use Rattle.sweep.specs.Stages.{Stages, Swept, came_to, reach_in}
use Rattle.sweep.specs.Turns.{Bounded, bounds_by, step_fits}
use Rattle.sweep.proofs.turns.lift_turn.Given as goal

abbrev pub invariant-loop-i : goal.invariant-loop-i
invariant-loop-i l =
    (l.bounds ≡ bounds_by l.fn.filter (suc l.most) l.i)
    × (l.bounds.even ≤ 2 ^ 32)
    × (l.bounds.odd ≤ 2 ^ 32)
    × Bounded l.frame l.gap (reach_in l.frame l.fn.filter l.turn (suc l.i)) l.fn.filter (suc l.most) l.work
    × ((stages : ℕ → Picture) → Stages l.frame l.fn.filter stages → Swept l.frame l.gap (reach_in l.frame l.fn.filter l.turn 1) stages l.initial.work
    → ((n : ℕ) → n < l.i → EachPair (came_to l.frame.band_rows ((n + 1) * l.gap) l.turn) (came_to l.frame.band_rows ((n + 1) * l.gap) (l.turn + 8)) (step_fits l.frame l.fn.filter stages n))
    × Swept l.frame l.gap (reach_in l.frame l.fn.filter l.turn (suc l.i)) stages l.work)
