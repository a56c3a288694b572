-- `transform::bands::copy_rows` meets its contract: after each turn the rows so far are copied, and no row meets another.
use mathlib.Core.Path.{◌≡◌}
use Prim.Native.Nat.{ℕ, ◌+◌, ◌*◌, ◌<◌}
use lib.IntN.{pos}
use lib.ListN.{get_or}
use Rattle.transform.proofs.bands.copy_rows.Given as goal

abbrev pub invariant-loop-row : goal.invariant-loop-row
invariant-loop-row l =
    (r x : ℕ) → r < l.row → x < l.columns → get_or l.to (r * l.to_stride + x) (pos 0) ≡ get_or l.from (r * l.from_stride + x) (pos 0)
