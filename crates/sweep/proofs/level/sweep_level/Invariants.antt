-- `sweep::level::sweep_level` meets its contract: each turn brings eight pairs to each stage, and in the end every pair has come to the last.
use Prim.Native.Nat.{◌-◌}
use Rattle.sweep.proofs.LevelsLaws.{Progress}
use Rattle.sweep.proofs.level.sweep_level.Given as goal

abbrev pub invariant-loop-turn : goal.invariant-loop-turn
invariant-loop-turn l = Progress l.level l.filter l.padded_width l.initial.work l.coefficients l.most l.turn l.work l.samples

abbrev pub decreases-loop-turn : goal.decreases-loop-turn
decreases-loop-turn l = l.last - l.turn
