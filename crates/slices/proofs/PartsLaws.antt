-- Laws of the parts of a slice: a part's rectangles lie in its planes, and what its values are decoded by.
-- Assumes nothing.
use mathlib.Core.Path.{◌≡◌, refl, sym, ap, ◌∙◌}
use mathlib.Core.List.{List}
use Prim.Native.Nat.{ℕ, ◌*◌, ◌<◌}
use native.Mathlib.Omega.{arith}
use lib.IntN.{ℤ}
use Rattle.std.specs.Prelude.{Ok, Err}
use Rattle.base.specs.Refusals.{number_of}
use Rattle.base.specs.declared.status.Fault.{Fault}
use Rattle.component.specs.Subbands.{subband_count}
use Rattle.coefficients.specs.Reading.{RunOf, goes_on, stops, going}
use Rattle.coefficients.proofs.ReadingLaws.{Stays}
use Rattle.slices.specs.Planes.{Planes}
use Rattle.slices.specs.Areas.{grid_of, luma_grid, chroma_grid, slice_area, slice_count}
use Rattle.slices.specs.Parts.{PartData, Parts, part, ends, refused, grid_for, part_values, parts_values}
use Rattle.slices.specs.Bounds.{Lengths, Whole}
use Rattle.slices.specs.Stores.{SameLengths, Fits}
use Rattle.slices.specs.Reads.{Left}
use Rattle.slices.specs.declared.parameters.Picture.{Picture}
use Rattle.slices.specs.declared.parameters.Holder.{Holder}
use Rattle.slices.specs.declared.parameters.Holder.TheVariants.{Luma, Both}
use Rattle.slices.proofs.AreasLaws.{area-inside}
use Rattle.slices.proofs.ReadsLaws.{left-refused, left-stops, left-goes, left-on}

-- a part's component has the picture's slices and depth
module _ (p : Picture) (holder : Holder) where
  pub grid-counted : (s : ℕ) → s < slice_count p → s < (grid_for p holder).across * (grid_for p holder).down
  unfolding grid_of slice_count
  grid-counted s below = by holder
    where
      by : (h : Holder) → s < (grid_for p h).across * (grid_for p h).down
      by Luma = below
      by Both = below

  pub grid-depth : (k : ℕ) → k < subband_count p.depth → k < subband_count (grid_for p holder).depth
  unfolding grid_of
  grid-depth k below = by holder
    where
      by : (h : Holder) → k < subband_count (grid_for p h).depth
      by Luma = below
      by Both = below

  -- so its rectangles lie in its planes
  pub part-fits : Whole (grid_for p holder) → (s : ℕ) → s < slice_count p → (k : ℕ) → k < subband_count p.depth →
      (planes : Planes) → Lengths p planes.luma planes.first planes.second → Fits holder (slice_area (grid_for p holder) s k) planes
  part-fits whole s counted k below planes lengths = by holder whole (grid-counted s counted) (grid-depth k below)
    where
      by : (h : Holder) → Whole (grid_for p h) → s < (grid_for p h).across * (grid_for p h).down → k < subband_count (grid_for p h).depth → Fits h (slice_area (grid_for p h) s k) planes
      by Luma w c b =
          let inside = area-inside (luma_grid p) w k b s c planes.luma lengths.luma_long in
          record { narrow = omega (arith, inside.wide, inside.narrow); tall = inside.tall; close = inside.narrow; rows = λ y h. inside.rows y h }
      by Both w c b =
          let one = area-inside (chroma_grid p) w k b s c planes.first lengths.first_long in
          let other = area-inside (chroma_grid p) w k b s c planes.second lengths.second_long in
          record { narrow = omega (arith, one.wide, one.narrow); tall = one.tall; close = one.narrow; rows = λ y h. (one.rows y h, other.rows y h) }

-- planes of the same lengths are as long
pub lengths-same : (p : Picture) (before now : Planes) → SameLengths before now → Lengths p before.luma before.first before.second → Lengths p now.luma now.first now.second
lengths-same p before now same lengths =
    record { luma_long = same.0 ∙ lengths.luma_long; first_long = same.1 ∙ lengths.first_long; second_long = same.2 ∙ lengths.second_long }

-- a refused run stays as it is, whatever parts follow
module _ (p : Picture) (s : ℕ) where
  pub parts_stay : (parts : Parts) → Stays (parts_values p s parts)
  unfolding parts_values going
  parts_stay (part index d holder rest) status bit plane = parts_stay rest status bit plane
  parts_stay (ends next) status bit plane = refl
  parts_stay (refused st at) status bit plane = refl

  -- a run that goes on takes the next part from the bit at which it starts, and ends where the parts do
  pub parts_next : (index : ℕ) (d : PartData) (holder : Holder) (rest : Parts) (at : ℕ) (planes : Planes) →
      parts_values p s (part index d holder rest) (goes_on at planes) ≡ parts_values p s rest (part_values p s index d holder (goes_on d.from planes))
  unfolding parts_values going
  parts_next index d holder rest at planes = refl

  pub parts-end : (next at : ℕ) (planes : Planes) → parts_values p s (ends next) (goes_on at planes) ≡ goes_on next planes
  unfolding parts_values going
  parts-end next at planes = refl

  pub parts-refused : (status bit at : ℕ) (planes : Planes) → parts_values p s (refused status bit) (goes_on at planes) ≡ stops status bit planes
  unfolding parts_values going
  parts-refused status bit at planes = refl

  -- what a part left that was refused is what the whole slice leaves
  pub parts-stopped : (end whole : ℕ) (fault : Fault) (planes : Planes) (run : List ℤ) (rest : Parts) (r : RunOf Planes) →
      Left end (Err fault) planes run r → Left whole (Err fault) planes run (parts_values p s rest r)
  parts-stopped end whole fault planes run rest r left =
      let status = number_of fault.refusal in
      left-refused whole fault r.plane planes run _ (sym (ap (parts_values p s rest) (left-stops end fault planes run r left) ∙ parts_stay rest status fault.bit r.plane))

  -- two parts, and then the end of the slice
  module _ (index : ℕ) (d e : PartData) (holder other : Holder) (last at : ℕ) (planes : Planes) where
    abbrev two : Parts
    two = part index d holder (part index e other (ends last))

    -- the first is refused
    pub first-stopped : (end whole : ℕ) (fault : Fault) (after : Planes) (run : List ℤ) →
        Left end (Err fault) after run (part_values p s index d holder (goes_on d.from planes)) → Left whole (Err fault) after run (parts_values p s two (goes_on at planes))
    first-stopped end whole fault after run left =
        rw (parts_next index d holder (part index e other (ends last)) at planes)
        (parts-stopped end whole fault after run (part index e other (ends last)) _ left)

    module _ (next : ℕ) (middle : Planes) (is : part_values p s index d holder (goes_on d.from planes) ≡ goes_on next middle) where
      onto : parts_values p s two (goes_on at planes) ≡ parts_values p s (ends last) (part_values p s index e other (goes_on e.from middle))
      onto =
          parts_next index d holder (part index e other (ends last)) at planes
          ∙ ap (parts_values p s (part index e other (ends last))) is ∙ parts_next index e other (ends last) next middle

      -- the second is
      pub second-stopped : (end whole : ℕ) (fault : Fault) (after : Planes) (run : List ℤ) →
          Left end (Err fault) after run (part_values p s index e other (goes_on e.from middle)) → Left whole (Err fault) after run (parts_values p s two (goes_on at planes))
      second-stopped end whole fault after run left = rw onto (parts-stopped end whole fault after run (ends last) _ left)

      -- none is
      pub both_read : (end bit : ℕ) (after : Planes) (run : List ℤ) →
          Left end (Ok bit) after run (part_values p s index e other (goes_on e.from middle)) → Left last (Ok last) after run (parts_values p s two (goes_on at planes))
      both_read end bit after run left =
          left-goes last last after run _ (onto ∙ ap (parts_values p s (ends last)) (left-on end bit after run _ left) ∙ parts-end last bit after) (omega arith) (left.run_blank bit refl)
