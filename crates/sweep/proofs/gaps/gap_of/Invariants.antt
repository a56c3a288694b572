-- `sweep::gaps::gap_of` meets its contract: after some turns the gap is enough for as many steps.
use Prim.Native.Nat.{ℕ, ◌+◌, ◌≤◌, ◌<◌}
use Rattle.sweep.specs.Stages.{step_at}
use Rattle.sweep.proofs.gaps.gap_of.Given as goal

abbrev pub invariant-loop-step : goal.invariant-loop-step
invariant-loop-step l =
    (l.gap ≤ 4)
    × ((j : ℕ) → j < l.step-index → (4 ≤ (step_at l.fn.filter j).lead + l.gap) × ((step_at l.fn.filter j).lead + (step_at l.fn.filter j).count ≤ 5 + l.gap))
