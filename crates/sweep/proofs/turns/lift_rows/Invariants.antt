-- `sweep::turns::lift_rows` meets its contract: after some turns the rows of as many pairs are those that the step makes of the whole plane.
use Rattle.lifting.specs.Lines.{new_row_fits}
use Rattle.sweep.specs.Pairs.{EachPair, FramePut}
use Rattle.sweep.specs.Turns.{stepped}
use Rattle.sweep.proofs.turns.lift_rows.Given as goal

abbrev pub invariant-loop-k : goal.invariant-loop-k
invariant-loop-k l =
    EachPair l.from l.k (new_row_fits l.frame l.step l.initial.work)
    × FramePut l.frame l.from l.k (stepped l.frame l.step l.initial.work) l.initial.work l.work
