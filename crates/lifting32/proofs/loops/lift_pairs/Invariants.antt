-- `lifting32::loops::lift_pairs` meets its contract: at x the first x numbers of the line are the new ones. What a turn reads is as it came, since the
-- lines that are read are apart from the one that is changed.
use mathlib.Core.Path.{◌≡◌}
use Rattle.lines.specs.Sums.{line_lifted}
use Rattle.lifting32.specs.Pairs.{pair_sum}
use Rattle.lifting32.proofs.loops.lift_pairs.Given as goal

abbrev pub invariant-loop-x : goal.invariant-loop-x
invariant-loop-x l =
    l.plane ≡ line_lifted l.adds l.scale l.initial.plane l.start l.x (pair_sum l.initial.plane l.paired l.t0 l.t1 l.t2 l.t3)
