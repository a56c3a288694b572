-- `slices::parts::read_part` meets its contract: at the loop's head the values of the subbands before subband k are read.
use mathlib.Core.Path.{◌≡◌}
use Prim.Native.Nat.{◌≤◌}
use lib.ListN.{length}
use Rattle.base.specs.Walk.{walk}
use Rattle.coefficients.specs.Quantiser.{dequantise}
use Rattle.coefficients.specs.Reading.{goes_on}
use Rattle.slices.specs.Areas.{slice_area, subband_index}
use Rattle.slices.specs.Parts.{grid_for, area_values}
use Rattle.slices.specs.Stores.{planes_behind, SamePlanes}
use Rattle.slices.specs.Reads.{Blank, data_of}
use Rattle.slices.proofs.parts.read_part.Given as goal

abbrev pub invariant-loop-k : goal.invariant-loop-k
invariant-loop-k l =
    (l.k ≤ l.count) × SamePlanes l.initial.planes l.planes × (length l.run ≡ length l.initial.run) × Blank l.run
    × (l.span.end ≡ l.initial.span.end) × (l.span.origin ≡ l.initial.span.origin) × (l.span.bit ≤ l.initial.span.end)
    × (walk (λ j. area_values (data_of l.bytes l.initial.span) (dequantise l.part.picture.intra (subband_index l.part.picture l.part.index j)) l.part.holder (slice_area (grid_for l.part.picture l.part.holder) l.part.slice j)) 0 l.k
    (goes_on l.initial.span.bit (planes_behind l.initial.planes))
    ≡ goes_on l.span.bit (planes_behind l.planes))
