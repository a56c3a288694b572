-- `slices::parts::read_area` meets its contract: all rows at once; or row by row, where at the loop's head the rows before row y are read.
use mathlib.Core.Path.{◌≡◌}
use Prim.Native.Nat.{◌≤◌}
use lib.ListN.{length}
use Rattle.base.specs.Walk.{walk}
use Rattle.coefficients.specs.Reading.{goes_on}
use Rattle.coefficients.specs.Scaling.{scale_of}
use Rattle.slices.specs.Parts.{area_values}
use Rattle.slices.specs.Stores.{planes_behind, SamePlanes}
use Rattle.slices.specs.Reads.{Blank, data_of, row_of}
use Rattle.slices.proofs.parts.read_area.Given as goal

abbrev pub invariant-loop-y : goal.invariant-loop-y
invariant-loop-y l =
    (l.y ≤ l.area.height) × SamePlanes l.initial.planes l.planes × (length l.run ≡ length l.initial.run) × Blank l.run
    × (l.row.holder ≡ l.piece.holder) × (l.row.decoder ≡ l.piece.decoder)
    × (l.row.span.end ≡ l.piece.span.end) × (l.row.span.origin ≡ l.piece.span.origin) × (l.row.span.bit ≤ l.piece.span.end)
    × (walk (λ j. area_values (data_of l.bytes l.piece.span) (scale_of l.piece.decoder.q) l.piece.holder (row_of l.area j)) 0 l.y (goes_on l.piece.span.bit (planes_behind l.initial.planes))
    ≡ goes_on l.row.span.bit (planes_behind l.planes))
