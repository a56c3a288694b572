-- `text::numbers::put_rows` meets its contract: after y turns the text goes on by the first y rows.
use mathlib.Core.Path.{◌≡◌}
use Prim.Native.Nat.{◌+◌, ◌*◌, ◌≤◌}
use lib.ListN.{length}
use Rattle.text.specs.Put.{Put}
use Rattle.text.specs.Text.{rows_text}
use Rattle.text.proofs.numbers.put_rows.Given as goal

abbrev pub invariant-loop-y : goal.invariant-loop-y
invariant-loop-y l =
    (length l.text ≡ length l.fn.text)
    × (l.end ≤ l.at + 12 * (l.width * l.y) + l.y)
    × Put l.at l.fn.text (rows_text l.width l.y l.numbers) l.end l.text
