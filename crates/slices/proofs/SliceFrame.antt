-- What a slice leaves as it was: reading its parts, whatever they are, changes no entry outside the slice's rectangles.
-- Assumes nothing.
use mathlib.Core.Path.{◌≡◌, refl, ◌∙◌}
use mathlib.Core.List.{List}
use Prim.Native.Nat.{ℕ, ◌<◌}
use native.Mathlib.Omega.{arith}
use lib.IntN.{ℤ, pos}
use lib.ListN.{length, get_or, set, length-set}
use lib.Seq.{get_or-set_other}
use Rattle.base.proofs.WalkLaws.{walk-holds}
use Rattle.component.specs.Subbands.{subband_count}
use Rattle.coefficients.specs.Reading.{Progress, At, Refused, RunOf, goes_on, going}
use Rattle.coefficients.proofs.ReadingLaws.{value-holds}
use Rattle.slices.specs.Planes.{Planes, in_luma, in_first, in_second}
use Rattle.slices.specs.Areas.{grid_of, luma_grid, chroma_grid, slice_area}
use Rattle.slices.specs.Parts.{PartData, Parts, part, ends, refused, grid_for, entry_values, area_values, part_values, parts_values}
use Rattle.slices.specs.declared.parameters.Picture.{Picture}
use Rattle.slices.specs.declared.parameters.Grid.{Grid}
use Rattle.slices.specs.declared.parameters.Holder.{Holder}
use Rattle.slices.specs.declared.parameters.Holder.TheVariants.{Luma, Both}
use Rattle.slices.proofs.SliceTiling.{InRectangle}

-- An entry of a component's plane lies in one of the rectangles of slice s.
pub record InSlice (g : Grid) (s entry : ℕ) : Type 0 where
  pub subband : ℕ
  pub counted : subband < subband_count g.depth
  pub inside : InRectangle (slice_area g s subband) entry

-- A plane as long as it was, with the same entries outside the rectangles of slice s.
pub record SameOutside (g : Grid) (s : ℕ) (before after : List ℤ) : Type 0 where
  pub lengths : length after ≡ length before
  pub entries : (j : ℕ) → (InSlice g s j → ⊥) → get_or after j (pos 0) ≡ get_or before j (pos 0)

-- The three planes so, each with its component's rectangles.
pub record KeptOutside (p : Picture) (s : ℕ) (before after : Planes) : Type 0 where
  pub luma : SameOutside (luma_grid p) s before.luma after.luma
  pub first : SameOutside (chroma_grid p) s before.first after.first
  pub second : SameOutside (chroma_grid p) s before.second after.second

-- the theorem, which `slice-frame` proves: any parts of slice s, read from any run on, leave the planes so
abbrev pub SliceFrame : Type 0
SliceFrame = (p : Picture) (s : ℕ) (parts : Parts) (r : RunOf Planes) → KeptOutside p s r.plane (parts_values p s parts r).plane

-- How parts end.
unfoldable pub end_of : Parts → Progress
end_of (part index d holder rest) = end_of rest
end_of (ends bit) = At bit
end_of (refused status bit) = Refused status bit

-- all components share a depth
one-depth : (p : Picture) (holder : Holder) → (grid_for p holder).depth ≡ p.depth
unfolding grid_of
one-depth p Luma = refl
one-depth p Both = refl

-- whatever each value of slice s and the start of a part keep of a run, parts of the slice keep, if their end does
module _ (p : Picture) (s : ℕ) (Q : RunOf Planes → Type 0)
    (each : (d : PartData) (scale : ℕ → ℕ) (holder : Holder) (i : ℕ) → InSlice (grid_for p holder) s i →
    (r : RunOf Planes) → Q r → Q (entry_values d scale holder i r))
    (starts : (at from : ℕ) (planes : Planes) → Q (goes_on at planes) → Q (goes_on from planes)) where
  part-holds : (index : ℕ) (d : PartData) (holder : Holder) (r : RunOf Planes) → Q r → Q (part_values p s index d holder r)
  unfolding part_values area_values
  part-holds index d holder =
      walk-holds Q _ 0 (subband_count p.depth)
      (λ k counted.
      let a = slice_area (grid_for p holder) s k in
      walk-holds Q _ 0 a.height
      (λ y low.
      walk-holds Q _ 0 a.width
      (λ x inner.
      each d _ holder _
      (record {
        subband = k;
        counted = rw (one-depth p holder) (omega arith);
        inside = record { row = y; column = x; above_bottom = omega arith; left_of_right = omega arith; here = refl };
      }))))

  step-holds : (progress : Progress) (planes : Planes) (next : ℕ → RunOf Planes) → Q (record { progress = progress; plane = planes }) →
      ((bit : ℕ) → Q (goes_on bit planes) → Q (next bit)) → Q (going progress planes next)
  unfolding going
  step-holds (At bit) planes next here on = on bit here
  step-holds (Refused status bit) planes next here on = here

  pub parts-hold : (parts : Parts) → ((at : ℕ) (planes : Planes) → Q (goes_on at planes) → Q (record { progress = end_of parts; plane = planes })) →
      (r : RunOf Planes) → Q r → Q (parts_values p s parts r)
  unfolding parts_values end_of
  parts-hold (part index d holder rest) last r here =
      parts-hold rest last _ (step-holds r.progress r.plane _ here (λ bit this. part-holds index d holder _ (starts bit d.from r.plane this)))
  parts-hold (ends bit) last r here = step-holds r.progress r.plane _ here (λ at this. last at r.plane this)
  parts-hold (refused status bit) last r here = step-holds r.progress r.plane _ here (λ at this. last at r.plane this)

-- a number put to an entry of the slice
put_keeps : (g : Grid) (s i : ℕ) (v : ℤ) (before now : List ℤ) → InSlice g s i → SameOutside g s before now → SameOutside g s before (set now i v)
put_keeps g s i v before now inside same =
    record {
      lengths = length-set now i v ∙ same.lengths;
      entries = λ j outside. get_or-set_other now i j v (pos 0) (λ e. outside (rw e inside)) ∙ same.entries j outside;
    }

module _ (p : Picture) (s : ℕ) (before : Planes) where
  -- a value, or two in turn
  entry-keeps : (d : PartData) (scale : ℕ → ℕ) (holder : Holder) (i : ℕ) → InSlice (grid_for p holder) s i →
      (r : RunOf Planes) → KeptOutside p s before r.plane → KeptOutside p s before (entry_values d scale holder i r).plane
  unfolding entry_values in_luma in_first in_second
  entry-keeps d scale Luma i inside r here =
      value-holds d.bytes d.to d.origin scale (in_luma i) (KeptOutside p s before)
      (λ v now kept. record { luma = put_keeps (luma_grid p) s i v _ _ inside kept.luma; first = kept.first; second = kept.second })
      r here
  entry-keeps d scale Both i inside r here =
      value-holds d.bytes d.to d.origin scale (in_second i) (KeptOutside p s before)
      (λ v now kept. record { luma = kept.luma; first = kept.first; second = put_keeps (chroma_grid p) s i v _ _ inside kept.second })
      _
      (value-holds d.bytes d.to d.origin scale (in_first i) (KeptOutside p s before)
      (λ v now kept. record { luma = kept.luma; first = put_keeps (chroma_grid p) s i v _ _ inside kept.first; second = kept.second })
      r here)

pub slice-frame : SliceFrame
slice-frame p s parts r =
    parts-hold p s (λ u. KeptOutside p s r.plane u.plane) (entry-keeps p s r.plane) (λ at from planes kept. kept) parts
    (λ at planes kept. kept) r
    (record { luma = none _ _; first = none _ _; second = none _ _ })
  where
    none : (g : Grid) (plane : List ℤ) → SameOutside g s plane plane
    none g plane = record { lengths = refl; entries = λ j outside. refl }
