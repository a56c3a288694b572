-- Laws of the rectangles of slices: a component of padded sizes, a slice's rectangle between its edges, and that it lies in the plane.
-- Assumes nothing.
use mathlib.Core.Path.{◌≡◌, refl, sym}
use mathlib.Core.Bool.{Bool, true}
use mathlib.Core.List.{List}
use Prim.Native.Nat.{ℕ, ◌+◌, ◌-◌, ◌*◌, ◌/◌, ◌%◌, ◌^◌, ◌≤◌, ◌<◌}
use native.Mathlib.Nat.{mul-le-mul_right, mul_comm, mod-lt, div-lt_iff_lt-mul}
use native.Mathlib.Numerals.{add-one}
use native.Mathlib.Omega.{arith}
use borrow.Author.Tests.{leb-true, le-leb}
use lib.Dec.{leb}
use lib.IntN.{ℤ}
use lib.ListN.{length}
use lib.Pow.{pow_pos}
use Rattle.std.specs.Prelude.{◌↔◌}
use Rattle.std.proofs.lemmas.Nat.{div-mul-add}
use Rattle.base.specs.Every.{all_below}
use Rattle.base.proofs.Booleans.{same_test}
use Rattle.base.proofs.EveryLaws.{all_from, all-at}
use Rattle.component.specs.Partition.{part_start}
use Rattle.component.specs.Reciprocal.{reciprocal_of}
use Rattle.component.specs.Sizes.{padded_size}
use Rattle.component.specs.Subbands.{subband_count, subband_at}
use Rattle.component.specs.declared.subbands.Subband.{Subband}
use Rattle.component.proofs.ReciprocalLaws.{reciprocal-small}
use Rattle.component.proofs.SizesLaws.{padded-most}
use Rattle.component.proofs.SubbandsLaws.{subband-inside}
use Rattle.rectangles.specs.Areas.{Inside}
use Rattle.codeblocks.specs.Blocks.{Counted, Placed}
use Rattle.codeblocks.specs.Codeblocks.{codeblock_area}
use Rattle.codeblocks.proofs.BlocksLaws.{BlockRoom, room, areas-inside}
use Rattle.slices.specs.Areas.{grid_of, band_slices, slice_area}
use Rattle.slices.specs.Bounds.{Checked, Whole}
use Rattle.slices.specs.declared.parameters.Picture.{Picture}
use Rattle.slices.specs.declared.parameters.Grid.{Grid}
use Rattle.slices.specs.declared.areas.Slice.{Slice}

-- a padded size is padded already
padded-again : (depth size : ℕ) → padded_size depth size ≡ padded_size depth (padded_size depth size)
unfolding padded_size
padded-again depth size =
    let once : ((size + (2 ^ depth - 1)) / 2 ^ depth * 2 ^ depth + (2 ^ depth - 1)) / 2 ^ depth ≡ (size + (2 ^ depth - 1)) / 2 ^ depth =
    div-mul-add _ (2 ^ depth) _ (omega (arith, pow_pos depth)) in
    rw once refl

-- the component that the code computes, from padded sizes
module _ (p : Picture) (width height w h : ℕ) (w-is : w ≡ padded_size p.depth width) (h-is : h ≡ padded_size p.depth height) where
  pub grid-is : record { depth = p.depth; width = w; height = h; across = p.slices_across; down = p.slices_down } ≡ grid_of p width height
  unfolding grid_of
  grid-is = rw (w-is, h-is)

  pub grid-whole : Checked p → width ≤ 4096 → height ≤ 4096 →
      Whole (record { depth = p.depth; width = w; height = h; across = p.slices_across; down = p.slices_down })
  grid-whole checked narrow short =
      record {
        shallow = checked.shallow;
        width_padded = rw w-is (padded-again p.depth width);
        height_padded = rw h-is (padded-again p.depth height);
        width_most = rw w-is (padded-most p.depth checked.shallow width narrow);
        height_most = rw h-is (padded-most p.depth checked.shallow height short);
        across_least = checked.across_least;
        across_most = checked.across_most;
        down_least = checked.down_least;
        down_most = checked.down_most;
      }

-- a subband of a component, divided into slices
module _ (g : Grid) (whole : Whole g) (k : ℕ) (below : k < subband_count g.depth) where
  band-inside : let s = subband_at g.depth g.width g.height k in (s.left + s.width ≤ g.width) × (s.top + s.height ≤ g.height)
  band-inside =
      rw (sym whole.width_padded, sym whole.height_padded) at (subband-inside g.depth g.width g.height k below)

  pub band-counted : Counted (band_slices g k)
  unfolding band_slices
  band-counted =
      record {
        across_least = whole.across_least;
        across_most = whole.across_most;
        down_least = whole.down_least;
        down_most = whole.down_most;
        wide = band-inside.0;
        narrow = whole.width_most;
        tall = omega (arith, band-inside.1, whole.height_most);
      }

  pub band-placed : (plane : List ℤ) → length plane ≡ g.width * g.height → Placed (band_slices g k) plane
  unfolding band_slices
  band-placed plane long =
      record {
        counted = band-counted;
        inside = omega (arith, mul-le-mul_right g.width band-inside.1, mul_comm g.height g.width, long);
      }

  -- each slice's rectangle lies in the plane
  pub area-inside : (s : ℕ) → s < g.across * g.down → (plane : List ℤ) → length plane ≡ g.width * g.height → Inside (slice_area g s k) plane
  unfolding slice_area band_slices
  area-inside s counted plane long = areas-inside (band_slices g k) plane (band-placed plane long) s counted

-- What the code computes of a slice is small.
pub record StandingRoom (t : Slice) : Type 0 where
  pub column-most : t.x < 255
  pub row-most : t.y < 255
  pub across-small : t.across_reciprocal ≤ 4294967297
  pub down-small : t.down_reciprocal ≤ 4294967297

pub standing-room : (t : Slice) → StandingRoom t
standing-room t =
    let column = mod-lt t.number t.whole.across_least in
    let row = (div-lt_iff_lt-mul t.whole.across_least).1 (rw (mul_comm t.grid.across t.grid.down) at t.counted) in
    record {
      column-most = omega (arith, t.column, t.whole.across_most);
      row-most = omega (arith, t.row, t.whole.down_most);
      across-small = rw t.across_by (reciprocal-small t.grid.across);
      down-small = rw t.down_by (reciprocal-small t.grid.down);
    }

-- An edge: where part x starts, by the reciprocal of the count of parts.
abbrev EdgeBy : ℕ → ℕ → ℕ → ℕ → Type 0
EdgeBy edge size reciprocal x = (count : ℕ) → 1 ≤ count → count ≤ 255 → reciprocal ≡ reciprocal_of count → edge ≡ part_start size count x

-- a slice's rectangle, between the edges that the code computes
module _ (t : Slice) (k : ℕ) (below : k < subband_count t.grid.depth) (b : Subband)
    (is : b ≡ subband_at t.grid.depth t.grid.width t.grid.height k) where
  pub band-small : (b.width ≤ 4096) × (b.height ≤ 4096)
  band-small = rw is (omega (arith, band-inside t.grid t.whole k below, t.whole.width_most), omega (arith, band-inside t.grid t.whole k below, t.whole.height_most))

  module _ (left right top bottom : ℕ) (left_by : EdgeBy left b.width t.across_reciprocal t.x) (right_by : EdgeBy right b.width t.across_reciprocal (t.x + 1))
      (top-by : EdgeBy top b.height t.down_reciprocal t.y) (bottom-by : EdgeBy bottom b.height t.down_reciprocal (t.y + 1)) where
    across-edge : {edge : ℕ} (x : ℕ) → EdgeBy edge b.width t.across_reciprocal x → edge ≡ part_start (subband_at t.grid.depth t.grid.width t.grid.height k).width t.grid.across x
    across-edge x by = rw is at (by t.grid.across t.whole.across_least t.whole.across_most t.across_by)

    down-edge : {edge : ℕ} (y : ℕ) → EdgeBy edge b.height t.down_reciprocal y → edge ≡ part_start (subband_at t.grid.depth t.grid.width t.grid.height k).height t.grid.down y
    down-edge y by = rw is at (by t.grid.down t.whole.down_least t.whole.down_most t.down_by)

    pub area-room : BlockRoom (record { stride = t.grid.width; subband = b; across = t.grid.across; down = t.grid.down }) left right top bottom
    unfolding band_slices
    area-room =
        rw is
        (room (band_slices t.grid k) t.number left right top bottom
        (rw t.column at (across-edge t.x left_by)) (rw t.column at (across-edge (t.x + 1) right_by))
        (rw t.row at (down-edge t.y top-by)) (rw t.row at (down-edge (t.y + 1) bottom-by))
        (band-counted t.grid t.whole k below) t.counted)

    pub area-is :
        record { start = (b.top + top) * t.grid.width + (b.left + left); stride = t.grid.width; width = right - left; height = bottom - top }
        ≡ slice_area t.grid t.number k
    unfolding slice_area band_slices codeblock_area
    area-is =
        rw (is, across-edge t.x left_by, across-edge (t.x + 1) right_by, down-edge t.y top-by, down-edge (t.y + 1) bottom-by, t.column, t.row, add-one (t.number % t.grid.across), add-one (t.number / t.grid.across))
        refl

-- a test of whether the first numbers are at most a bound
pub all-most : (f : ℕ → ℕ) (n most : ℕ) (b : Bool) → (b ≡ true ↔ ((k : ℕ) → k < n → f k ≤ most)) → b ≡ all_below n (λ k. leb (f k) most)
all-most f n most b each =
    same_test _ _
    (λ yes. all_from (λ k. leb (f k) most) n (λ k h. le-leb _ _ (each.0 yes k h)))
    (λ all. each.1 (λ k h. leb-true _ _ (all-at (λ k. leb (f k) most) n k all h)))
