-- `runs::padded::padded_window` meets its contract: the bits are all there, or ones stand for those past the end.
use mathlib.Core.Path.{refl}
use native.Mathlib.Omega.{arith}
use Rattle.runs.proofs.PaddedLaws.{padded-whole, padded-ones}
use Rattle.runs.proofs.padded.padded_window.Goals as goal

pub returns-then-left-ge56 : goal.returns-then-left-ge56
returns-then-left-ge56 c =
    padded-whole _ _ _ _ c.requires.0 c.requires.1 c.next_bits-w.ensures c.if-left-ge56.true

pub returns : goal.returns
returns c =
    padded-ones _ _ _ _ c.requires.0 c.requires.1 c.next_bits-w.ensures _ _ refl (omega (arith, c.if-left-ge56.false)) c.with_ones.ensures
