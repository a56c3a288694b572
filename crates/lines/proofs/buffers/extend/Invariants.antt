-- `lines::buffers::extend` meets its contract: after i turns the first and the last entry of the half stand i times before and after it.
use mathlib.Core.Path.{◌≡◌}
use Rattle.lines.proofs.BuffersLaws.{ends}
use Rattle.lines.proofs.buffers.extend.Given as goal

abbrev pub invariant-loop-i : goal.invariant-loop-i
invariant-loop-i l = (l.all ≡ ends l.initial.all l.base l.half l.i l.first l.last)
