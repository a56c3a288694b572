-- `lines::sums::add_tap` meets its contract: at x the first x sums have the tap added, and none of the x products is above 2^44.
use mathlib.Core.Path.{◌≡◌}
use Prim.Native.Nat.{ℕ, ◌+◌, ◌^◌, ◌≤◌, ◌<◌}
use lib.IntN.{pos, nat_abs, ◌+ℤ◌, ◌*ℤ◌}
use lib.ListN.{get_or}
use Rattle.base.specs.Fill.{fill}
use Rattle.lines.proofs.sums.add_tap.Given as goal

abbrev pub invariant-loop-x : goal.invariant-loop-x
invariant-loop-x l =
    (l.sums ≡ fill l.initial.sums 0 l.x (λ k. get_or l.initial.sums k (pos 0) +ℤ l.tap *ℤ get_or l.source (l.start + k) (pos 0)))
    × ((k : ℕ) → k < l.x → nat_abs (l.tap *ℤ get_or l.source (l.start + k) (pos 0)) ≤ 2 ^ 44)
