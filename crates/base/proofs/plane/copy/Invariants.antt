-- `base::plane::copy` meets its contract: after x turns the plane is the one that came, with x entries of the source stored.
use mathlib.Core.Path.{◌≡◌}
use Prim.Native.Nat.{◌+◌, ◌≤◌}
use lib.IntN.{pos}
use lib.ListN.{length, get_or}
use Rattle.base.specs.Fill.{fill}
use Rattle.base.proofs.plane.copy.Given as goal

abbrev pub invariant-loop-x : goal.invariant-loop-x
invariant-loop-x l = (l.x ≤ l.n) × (length l.plane ≡ length l.initial.plane) × (l.plane ≡ fill l.initial.plane l.index l.x (λ k. get_or l.source (l.from + k) (pos 0)))
