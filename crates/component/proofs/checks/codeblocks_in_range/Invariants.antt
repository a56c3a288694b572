-- `component::checks::codeblocks_in_range` meets its contract: the levels passed are in range, and the first that is not ends the loop.
use mathlib.Core.Path.{◌≡◌}
use mathlib.Core.Bool.{true}
use Prim.Native.Nat.{◌≤◌}
use Rattle.base.specs.Every.{all_below}
use Rattle.component.specs.Checks.{counts_in_range}
use Rattle.component.proofs.checks.codeblocks_in_range.Given as goal

abbrev pub invariant-loop-level : goal.invariant-loop-level
invariant-loop-level l = (l.p.depth ≤ 4) × (all_below l.level (counts_in_range l.p) ≡ true)
