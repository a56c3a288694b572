-- `lines::buffers::interleave_part` meets its contract: after x turns the plane is the one that came, with x numbers of the row stored.
use mathlib.Core.Path.{◌≡◌}
use Rattle.lines.specs.Buffers.{with_row_part}
use Rattle.lines.proofs.buffers.interleave_part.Given as goal

abbrev pub invariant-loop-x : goal.invariant-loop-x
invariant-loop-x l = (l.plane ≡ with_row_part l.initial.plane l.start l.from l.x l.halves l.shift)
