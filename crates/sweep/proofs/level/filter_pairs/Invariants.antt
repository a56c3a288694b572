-- `sweep::level::filter_pairs` meets its contract: after some turns the rows of as many pairs are filtered, each as the plane that came has it.
use mathlib.Core.Path.{◌≡◌}
use mathlib.Core.Bool.{true}
use Rattle.sweep.specs.Pairs.{EachPair, FramePut}
use Rattle.sweep.specs.Rows.{row_made, pair_fits}
use Rattle.sweep.specs.LastStage.{finishes, crop_of, rows_left, SamplesPut}
use Rattle.sweep.proofs.level.filter_pairs.Given as goal

abbrev pub invariant-loop-k : goal.invariant-loop-k
invariant-loop-k l =
    EachPair l.from l.k (pair_fits l.level.frame l.filter l.initial.work)
    × FramePut l.level.frame l.from l.k (rows_left l.level l.filter l.initial.work) l.initial.work l.work
    × (finishes l.level ≡ true → SamplesPut (crop_of l.level) l.from l.k (row_made l.level.frame l.filter l.initial.work) l.initial.samples l.samples)
