-- `contents::table::bodies_are_right` meets its contract: the entries passed are right, and the running end is where the next body has
-- to start. Each length is below 2^32, and there are at most 16.
use mathlib.Core.Path.{◌≡◌}
use mathlib.Core.Bool.{true}
use Prim.Native.Nat.{◌+◌, ◌*◌, ◌≤◌}
use Rattle.base.specs.Every.{all_below}
use Rattle.contents.specs.Table.{body_start, entry_is_right}
use Rattle.contents.proofs.table.bodies_are_right.Given as goal

abbrev pub invariant-loop-k : goal.invariant-loop-k
invariant-loop-k l = (l.end ≡ body_start l.file l.k) × (l.end ≤ 417 + 4294967296 * l.k) × (all_below l.k (entry_is_right l.file) ≡ true)
