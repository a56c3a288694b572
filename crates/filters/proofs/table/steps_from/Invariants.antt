-- `filters::table::steps_from` meets its contract: at k the first k entries are the first k steps.
use mathlib.Core.Path.{◌≡◌}
use lib.ListN.{length}
use Rattle.filters.specs.Table.{StepsFrom}
use Rattle.filters.proofs.table.steps_from.Given as goal

abbrev pub invariant-loop-k : goal.invariant-loop-k
invariant-loop-k l = (length l.steps ≡ 4) × StepsFrom l.start l.k l.steps
