-- `text::numbers::put_spaced` meets its contract: after each turn the text goes on by the numbers so far, each with its space.
use mathlib.Core.Path.{◌≡◌}
use Prim.Native.Nat.{◌+◌, ◌*◌, ◌≤◌}
use lib.ListN.{length, take}
use Rattle.text.specs.Put.{Put}
use Rattle.text.specs.Text.{spaced}
use Rattle.text.proofs.numbers.put_spaced.Given as goal

abbrev pub invariant-loop-number : goal.invariant-loop-number
invariant-loop-number l =
    (length l.text ≡ length l.fn.text)
    × (l.end ≤ l.at + 12 * l.number-index)
    × Put l.at l.fn.text (spaced (take l.number-index l.numbers)) l.end l.text
