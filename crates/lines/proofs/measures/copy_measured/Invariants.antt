-- `lines::measures::copy_measured` meets its contract: after x turns the plane is the one that came, with x entries of the source stored, and
-- none of them is larger than the number that is kept.
use mathlib.Core.Path.{◌≡◌}
use Prim.Native.Nat.{ℕ, ◌+◌, ◌≤◌, ◌<◌}
use lib.IntN.{pos}
use lib.ListN.{get_or}
use lib.Signed.{mag}
use Rattle.base.specs.Fill.{fill}
use Rattle.lines.proofs.measures.copy_measured.Given as goal

abbrev pub invariant-loop-x : goal.invariant-loop-x
invariant-loop-x l =
    (l.plane ≡ fill l.initial.plane l.start l.x (λ k. get_or l.source (l.from + k) (pos 0)))
    × ((k : ℕ) → k < l.x → mag (get_or l.source (l.from + k) (pos 0)) ≤ l.most)
