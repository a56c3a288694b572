-- `slices::stores::share` meets its contract: after x turns each plane is the one that came, with x entries stored.
use mathlib.Core.Path.{◌≡◌}
use Prim.Native.Nat.{◌+◌, ◌*◌, ◌≤◌}
use lib.IntN.{pos}
use lib.ListN.{length, get_or}
use Rattle.base.specs.Fill.{fill}
use Rattle.slices.proofs.stores.share.Given as goal

abbrev pub invariant-loop-x : goal.invariant-loop-x
invariant-loop-x l =
    (l.x ≤ l.n) × (length l.first ≡ length l.initial.first) × (length l.second ≡ length l.initial.second)
    × (l.first ≡ fill l.initial.first l.index l.x (λ k. get_or l.source (l.from + 2 * k) (pos 0))) × (l.second ≡ fill l.initial.second l.index l.x (λ k. get_or l.source (l.from + 2 * k + 1) (pos 0)))
