-- Request Four: "Slice rectangles divide a subband as blocks do". So the slices tile each subband: every entry of a plane lies in exactly one
-- slice's rectangle of exactly one subband, which is the one that it stands in.
-- Assumes nothing.
use mathlib.Core.Path.{◌≡◌, ap, sym, ◌∙◌}
use Prim.Native.Nat.{ℕ, ◌+◌, ◌-◌, ◌*◌, ◌/◌, ◌%◌, ◌≤◌, ◌<◌}
use native.Mathlib.Nat.{add-mul, mul_comm, div-add-mod', mod-lt}
use native.Mathlib.Decide.{ℕ_discrete}
use native.Mathlib.Omega.{arith}
use Rattle.base.proofs.Grids.{rows_apart, row_room}
use Rattle.component.specs.Partition.{part_start}
use Rattle.component.specs.Sizes.{padded_size}
use Rattle.component.specs.Subbands.{subband_count, subband_at, InSubband}
use Rattle.component.specs.declared.subbands.Subband.{Subband}
use Rattle.component.proofs.PartitionLaws.{part-end-most}
use Rattle.component.proofs.SubbandsLaws.{subband-inside}
use Rattle.component.proofs.Tiling.{tiled}
use Rattle.coefficients.specs.declared.reading.Rectangle.{Rectangle}
use Rattle.rectangles.proofs.AreasLaws.{in_area}
use Rattle.codeblocks.specs.Codeblocks.{codeblock_area}
use Rattle.codeblocks.proofs.CodeblockTiling.{LiesIn, codeblocks-tile}
use Rattle.slices.specs.Areas.{grid_of, band_slices, slice_area}
use Rattle.slices.specs.declared.parameters.Picture.{Picture}
use Rattle.slices.specs.declared.parameters.Grid.{Grid}

-- An entry of a plane lies in a rectangle, in some row and column of it.
pub record InRectangle (a : Rectangle) (entry : ℕ) : Type 0 where
  pub row : ℕ
  pub column : ℕ
  pub above_bottom : row < a.height
  pub left_of_right : column < a.width
  pub here : entry ≡ a.start + row * a.stride + column

-- Exactly one slice's rectangle of exactly one subband, which is the one that the row and column stand in, has the entry there.
pub record ExactlyOneRectangle (g : Grid) (row column : ℕ) : Type 0 where
  pub slice : ℕ
  pub subband : ℕ
  pub slice-counted : slice < g.across * g.down
  pub subband-counted : subband < subband_count g.depth
  pub in-subband : InSubband (subband_at g.depth g.width g.height subband) row column
  pub inside : InRectangle (slice_area g slice subband) (row * g.width + column)
  pub alone : (s k : ℕ) → s < g.across * g.down → k < subband_count g.depth → InRectangle (slice_area g s k) (row * g.width + column) → (s ≡ slice) × (k ≡ subband)

-- the theorem, which `slices-tile` proves: so it is at every row and column of a plane of a picture with some slices
abbrev pub SlicesTile : Type 0
SlicesTile =
    (p : Picture) (width height : ℕ) → 1 ≤ p.slices_across → 1 ≤ p.slices_down →
    let g = grid_of p width height in
    (row column : ℕ) → row < g.height → column < g.width → ExactlyOneRectangle g row column

-- two entries of rows a stride apart are the same row and column
same-entry : (stride a b x y : ℕ) → x < stride → y < stride → a * stride + x ≡ b * stride + y → (a ≡ b) × (x ≡ y)
same-entry stride a b x y hx hy same =
    elim (ℕ_discrete a b) [
      | yes e ↦
          let rows : a * stride ≡ b * stride = ap (λ (n : ℕ). n * stride) e in
          (e, omega arith)
      | no other ↦ absurd (rows_apart stride a b x y other hx hy same)
    ]

-- the slice x across, y down
slice_is : (across s y x : ℕ) → s / across ≡ y → s % across ≡ x → s ≡ y * across + x
slice_is across s y x row column = sym (rw (row, column) at (div-add-mod' s across))

module _ (p : Picture) (width height : ℕ) (some-across : 1 ≤ p.slices_across) (some-down : 1 ≤ p.slices_down) where
  abbrev across : ℕ
  across = p.slices_across

  abbrev down : ℕ
  down = p.slices_down

  abbrev stride : ℕ
  stride = padded_size p.depth width

  abbrev S : ℕ → Subband
  S = subband_at p.depth stride (padded_size p.depth height)

  -- a row and a column of the plane lie in subband k and there in the codeblock x across, y down
  record Lies (k y x row column : ℕ) : Type 0 where
    in-subband : InSubband (S k) row column
    in_block : LiesIn (S k).width (S k).height across down y x (row - (S k).top) (column - (S k).left)

  -- where an entry of a slice's rectangle lies
  found : (s k row column : ℕ) → s < across * down → k < subband_count p.depth → column < stride →
      InRectangle (slice_area (grid_of p width height) s k) (row * stride + column) → Lies k (s / across) (s % across) row column
  unfolding grid_of slice_area band_slices codeblock_area
  found s k row column below counted inner inside =
      let b = S k in
      let block = in_area across down s (omega (arith, mul_comm across down)) in
      let top = part_start b.height down (s / across) in
      let left = part_start b.width across (s % across) in
      let bottom-most = part-end-most b.height down some-down (s / across) block.row_below in
      let right-most = part-end-most b.width across some-across (s % across) block.column-below in
      let room = subband-inside p.depth width height k counted in
      let at = same-entry stride row (b.top + top + inside.row) column (b.left + left + inside.column) inner
      (omega arith) (inside.here ∙ omega (arith, add-mul (b.top + top) inside.row stride)) in
      record { in-subband = omega arith; in_block = omega arith }

  -- and an entry that lies so is one of the rectangle of the slice x across, y down
  placed : (k y x row column : ℕ) → x < across → Lies k y x row column →
      InRectangle (slice_area (grid_of p width height) (y * across + x) k) (row * stride + column)
  unfolding grid_of slice_area band_slices codeblock_area
  placed k y x row column inner lies =
      let s = y * across + x in
      let at = same-entry across (s / across) y (s % across) x (mod-lt s some-across) inner (div-add-mod' s across) in
      let top = (S k).top + part_start (S k).height down y in
      let left = (S k).left + part_start (S k).width across x in
      let rows : top + (row - top) ≡ row = omega arith in
      rw (at.0, at.1)
      (record {
        row = row - top;
        column = column - left;
        above_bottom = omega arith;
        left_of_right = omega arith;
        here = omega (arith, add-mul top (row - top) stride, ap (λ (n : ℕ). n * stride) rows);
      })

pub slices-tile : SlicesTile
unfolding grid_of
slices-tile p width height some-across some-down row column low inner =
    let across = p.slices_across in
    let down = p.slices_down in
    let one = tiled p.depth width height row column low inner in
    let b = subband_at p.depth (padded_size p.depth width) (padded_size p.depth height) one.index in
    let lies = one.lies in
    let block = codeblocks-tile b.width b.height across down (row - b.top) (column - b.left) some-across some-down (omega arith) (omega arith) in
    record {
      slice = block.y * across + block.x;
      subband = one.index;
      slice-counted = omega (arith, row_room across block.y down block.y-counted, block.x-counted, mul_comm across down);
      subband-counted = one.counted;
      in-subband = lies;
      inside =
          placed p width height some-across some-down one.index block.y block.x row column block.x-counted
          (record { in-subband = lies; in_block = block.lies });
      alone = λ s k below counted inside.
          let there = found p width height some-across some-down s k row column below counted inner inside in
          let same = one.alone k counted there.in-subband in
          let at = in_area across down s (omega (arith, mul_comm across down)) in
          let block-is = block.alone (s / across) (s % across) at.row_below at.column-below (rw same at there.in_block) in
          (slice_is across s block.y block.x block-is.0 block-is.1, same);
    }
