-- `filters::table::gain_of` meets its contract: at t `gain` is the sum of the first t taps' sizes.
use mathlib.Core.Path.{◌≡◌}
use lib.ListN.{take}
use Rattle.filters.specs.Table.{sizes_of}
use Rattle.filters.proofs.table.gain_of.Given as goal

abbrev pub invariant-loop-t : goal.invariant-loop-t
invariant-loop-t l = l.gain ≡ sizes_of (take l.t l.taps)
