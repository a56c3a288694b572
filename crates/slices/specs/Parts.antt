-- Document 02, request Four: the parts of a slice. A part runs from a bit to a bit of some bytes, and has the values of one plane or of two
-- in turn.
use Rattle.std.specs.Prelude.{ℕ, ◌+◌, ◌*◌, List}
use Rattle.base.specs.Walk.{walk}
use Rattle.component.specs.Subbands.{subband_count}
use Rattle.coefficients.specs.Quantiser.{dequantise}
use Rattle.coefficients.specs.Reading.{RunOf, goes_on, stops, going, value}
use Rattle.coefficients.specs.declared.reading.Rectangle.{Rectangle}
use Rattle.slices.specs.Planes.{Planes, in_luma, in_first, in_second}
use Rattle.slices.specs.Areas.{luma_grid, chroma_grid, slice_area, subband_index}
use Rattle.slices.specs.declared.parameters.Picture.{Picture}
use Rattle.slices.specs.declared.parameters.Grid.{Grid}
use Rattle.slices.specs.declared.parameters.Holder.{Holder}
use Rattle.slices.specs.declared.parameters.Holder.TheVariants.{Luma, Both}

-- The data of a part: the bytes that it stands in, the bit of all bytes at which these start, and the bits at which the part starts and ends.
pub record PartData : Type 0 where
  pub bytes : List ℕ
  pub origin : ℕ
  pub from : ℕ
  pub to : ℕ

-- The parts of a slice: each with the slice's quantiser index; after the last the bit at which the slice ends, or a refusal.
pub data Parts : Type 0 where
  part : (index : ℕ) → PartData → Holder → Parts → Parts
  ends : ℕ → Parts
  refused : (status bit : ℕ) → Parts

-- the component of a part, or that of each of its two
abbrev pub grid_for : Picture → Holder → Grid
grid_for p Luma = luma_grid p
grid_for p Both = chroma_grid p

-- "a bit past a part's end reads as 1": values are of data of a stated length. A size that was read becomes `scale` of it.
module _ (d : PartData) (scale : ℕ → ℕ) where
  -- what a part has for an entry: a value, or "C1 and C2 alternating per value"
  unfoldable pub entry_values : Holder → ℕ → RunOf Planes → RunOf Planes
  entry_values Luma i r = value d.bytes d.to d.origin scale (in_luma i) r
  entry_values Both i r = value d.bytes d.to d.origin scale (in_second i) (value d.bytes d.to d.origin scale (in_first i) r)

  -- what it has for the entries of a rectangle, in raster order
  unfoldable pub area_values : Holder → Rectangle → RunOf Planes → RunOf Planes
  area_values holder a r = walk (λ y. walk (λ x. entry_values holder (a.start + y * a.stride + x)) 0 a.width) 0 a.height r

module _ (p : Picture) (s : ℕ) where
  -- "subbands follow in stream order", each "without flags", of slice s. "Dequantising now depends on the intra flag".
  unfoldable pub part_values : ℕ → PartData → Holder → RunOf Planes → RunOf Planes
  part_values index d holder r =
      walk (λ k. area_values d (dequantise p.intra (subband_index p index k)) holder (slice_area (grid_for p holder) s k)) 0 (subband_count p.depth) r

  -- the parts in their order, each from the bit at which it starts
  unfoldable pub parts_values : Parts → RunOf Planes → RunOf Planes
  parts_values (part index d holder rest) r =
      parts_values rest (going r.progress r.plane (λ at. part_values index d holder (goes_on d.from r.plane)))
  parts_values (ends bit) r = going r.progress r.plane (λ at. goes_on bit r.plane)
  parts_values (refused status bit) r = going r.progress r.plane (λ at. stops status bit r.plane)
