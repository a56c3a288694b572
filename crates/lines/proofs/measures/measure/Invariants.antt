-- `lines::measures::measure` meets its contract: at index x no number before it is larger than the one that is kept.
use Prim.Native.Nat.{ℕ, ◌≤◌, ◌<◌}
use lib.IntN.{pos}
use lib.ListN.{get_or}
use lib.Signed.{mag}
use Rattle.lines.proofs.measures.measure.Given as goal

abbrev pub invariant-loop-v : goal.invariant-loop-v
invariant-loop-v l = (k : ℕ) → k < l.v-index → mag (get_or l.v-items k (pos 0)) ≤ l.most
