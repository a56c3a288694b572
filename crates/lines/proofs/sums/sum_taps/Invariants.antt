-- `lines::sums::sum_taps` meets its contract: at t each sum is the starting number with t taps added, and at most (t + 1) · 2^44 in size.
use mathlib.Core.Path.{◌≡◌}
use Prim.Native.Nat.{ℕ, ◌+◌, ◌*◌, ◌^◌, ◌<◌, ◌≤◌}
use lib.IntN.{pos}
use lib.ListN.{length, get_or}
use Rattle.lines.specs.Buffers.{Below}
use Rattle.lines.specs.Sums.{sum_at}
use Rattle.lines.proofs.sums.sum_taps.Given as goal

abbrev pub invariant-loop-t : goal.invariant-loop-t
invariant-loop-t l =
    (l.width ≤ length l.sums)
    × ((x : ℕ) → x < l.width → get_or l.sums x (pos 0) ≡ sum_at l.round l.taps l.starts l.t l.source x)
    × Below l.sums l.width (2 ^ 44 * (l.t + 1))
