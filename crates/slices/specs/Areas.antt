-- Document 02, request Four: the rectangles of a slice, and the quantiser index of each of its subbands.
use Rattle.std.specs.Prelude.{ℕ, ◌-◌, ◌/◌, ◌%◌, ◌*◌, Bool, leb, get_or}
use Rattle.base.specs.Every.{all_below}
use Rattle.component.specs.Sizes.{padded_size}
use Rattle.component.specs.Subbands.{subband_count, subband_at}
use Rattle.coefficients.specs.declared.reading.Rectangle.{Rectangle}
use Rattle.codeblocks.specs.Codeblocks.{codeblock_area}
use Rattle.codeblocks.specs.declared.CodeblockGrid.{CodeblockGrid}
use Rattle.slices.specs.declared.parameters.Picture.{Picture}
use Rattle.slices.specs.declared.parameters.Grid.{Grid}

-- "luma with its own size, the chroma pair with another, all sharing a depth"
unfoldable pub grid_of : Picture → ℕ → ℕ → Grid
grid_of p width height =
    record {
      depth = p.depth;
      width = padded_size p.depth width;
      height = padded_size p.depth height;
      across = p.slices_across;
      down = p.slices_down;
    }

abbrev pub luma_grid : Picture → Grid
luma_grid p = grid_of p p.luma_width p.luma_height

abbrev pub chroma_grid : Picture → Grid
chroma_grid p = grid_of p p.chroma_width p.chroma_height

-- "Slice rectangles divide a subband as blocks do": subband k, with the counts of slices as its counts of blocks
unfoldable pub band_slices : Grid → ℕ → CodeblockGrid
band_slices g k = record { stride = g.width; subband = subband_at g.depth g.width g.height k; across = g.across; down = g.down }

-- "Slices come in raster order": the rectangle that slice s has of subband k
unfoldable pub slice_area : Grid → ℕ → ℕ → Rectangle
slice_area g s k = codeblock_area (band_slices g k) (s / g.across) (s % g.across)

-- "Slices: 1..255 across and down"
unfoldable pub slice_count : Picture → ℕ
slice_count p = p.slices_across * p.slices_down

-- "A subband's index is the slice's less its matrix entry (0..127, one per subband, the same for all components), not below 0"
unfoldable pub subband_index : Picture → ℕ → ℕ → ℕ
subband_index p index k = index - get_or p.matrix k 0

-- "8 looks at every subband's index", for a "quantiser index above 115"
unfoldable pub indices_fit : Picture → ℕ → Bool
indices_fit p index = all_below (subband_count p.depth) (λ k. leb (subband_index p index k) 115)
