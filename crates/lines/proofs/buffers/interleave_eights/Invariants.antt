-- `lines::buffers::interleave_eights` meets its contract: after i turns the plane is the one that came, with the first 8 · i numbers of the row stored.
use mathlib.Core.Path.{◌≡◌}
use Prim.Native.Nat.{◌*◌}
use Rattle.lines.specs.Buffers.{with_row}
use Rattle.lines.proofs.buffers.interleave_eights.Given as goal

abbrev pub invariant-loop-i : goal.invariant-loop-i
invariant-loop-i l = (l.plane ≡ with_row l.initial.plane l.start (8 * l.i) l.halves l.shift)
