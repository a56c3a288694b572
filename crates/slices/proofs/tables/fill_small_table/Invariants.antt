-- `slices::tables::fill_small_table` meets its contract: at the loop's head the small values of every index before are in the table.
use mathlib.Core.Path.{◌≡◌}
use Prim.Native.Nat.{◌≤◌}
use lib.ListN.{length}
use Rattle.slices.specs.Bounds.{KnowsSmall}
use Rattle.slices.proofs.tables.fill_small_table.Given as goal

abbrev pub invariant-loop-index : goal.invariant-loop-index
invariant-loop-index l = (l.index ≤ 116) × (length l.table ≡ 116) × KnowsSmall l.intra l.index l.table
