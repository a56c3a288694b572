-- The code's own forms: codeblocks counted in raster order. No definition of the format rests on them.
use Rattle.std.specs.Prelude.{ℕ, zero, suc, ◌+◌, ◌-◌, ◌*◌, ◌/◌, ◌%◌, ◌≤◌, List, ℤ, length}
use Rattle.component.specs.Partition.{part_start}
use Rattle.coefficients.specs.declared.reading.Rectangle.{Rectangle}
use Rattle.codeblocks.specs.Codeblocks.{codeblock_area}
use Rattle.codeblocks.specs.declared.PlacedCodeblock.{PlacedCodeblock}
use Rattle.codeblocks.specs.declared.CodeblockGrid.{CodeblockGrid}

abbrev pub count_of : CodeblockGrid → ℕ
count_of b = b.across * b.down

-- Codeblock m, in raster order: its rectangle, and it as the code has it.
abbrev pub block_area : CodeblockGrid → ℕ → Rectangle
block_area b m = codeblock_area b (m / b.across) (m % b.across)

unfoldable pub block_at : CodeblockGrid → ℕ → PlacedCodeblock
block_at b m =
    record { x = m % b.across; right = part_start b.subband.width b.across (suc (m % b.across)); area = block_area b m }

-- The codeblock begun last, where m have been begun; one with no values, at the end of a row, where none has.
unfoldable pub block_before : CodeblockGrid → ℕ → PlacedCodeblock
block_before b zero = record { x = b.across - 1; right = 0; area = record { start = 0; stride = b.stride; width = 0; height = 0 } }
block_before b (suc m) = block_at b m

abbrev pub area_before : CodeblockGrid → ℕ → Rectangle
area_before b m = (block_before b m).area

-- There are codeblocks, and not too many; and the subband lies in the first 4096 rows and columns.
pub record Counted (b : CodeblockGrid) : Type 0 where
  pub across_least : 1 ≤ b.across
  pub across_most : b.across ≤ 255
  pub down_least : 1 ≤ b.down
  pub down_most : b.down ≤ 255
  pub wide : b.subband.left + b.subband.width ≤ b.stride
  pub narrow : b.stride ≤ 4096
  pub tall : b.subband.top + b.subband.height ≤ 4096

-- The subband lies in a plane of rows a stride apart, and has codeblocks.
pub record Placed (b : CodeblockGrid) (plane : List ℤ) : Type 0 where
  pub counted : Counted b
  pub inside : (b.subband.top + b.subband.height) * b.stride ≤ length plane
