-- `lifting32::pairs::paired_line` meets its contract: at j the first j indices are stored.
use mathlib.Core.Path.{◌≡◌}
use Prim.Native.Nat.{ℕ, ◌<◌}
use lib.ListN.{get_or}
use Rattle.lifting32.specs.Pairs.{pair_index}
use Rattle.lifting32.proofs.pairs.paired_line.Given as goal

abbrev pub invariant-loop-j : goal.invariant-loop-j
invariant-loop-j l = (k : ℕ) → k < l.j → get_or l.index-items k 0 ≡ pair_index l.starts l.half k
