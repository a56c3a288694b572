-- The code's own forms: what is left of codeblocks to read. No definition of the format rests on them.
use Rattle.std.specs.Prelude.{ℕ, ◌-◌, ◌/◌, ◌%◌, ◌≤◌, ◌<◌, List, ℤ}
use Rattle.base.specs.Walk.{walk}
use Rattle.coefficients.specs.Reading.{Run}
use Rattle.rectangles.specs.Areas.{area_values, ClearFrom}
use Rattle.codeblocks.specs.Codeblocks.{codeblock}
use Rattle.codeblocks.specs.Blocks.{count_of, block_area, area_before}
use Rattle.codeblocks.specs.declared.CodeblockGrid.{CodeblockGrid}
use Rattle.codeblocks.specs.declared.Position.{Position}

-- The entries of all values that have not been read hold zeros.
pub record ClearBlocks (b : CodeblockGrid) (at : Position) (plane : List ℤ) : Type 0 where
  pub begun_last : ClearFrom (area_before b at.begun) at.values plane
  pub later : (m : ℕ) → at.begun ≤ m → m < count_of b → ClearFrom (block_area b m) 0 plane

-- What is left of the codeblocks: the values of the one begun last, and then the codeblocks after it.
unfoldable pub rest_of_blocks : List ℕ → ℕ → ℕ → (ℕ → ℕ) → CodeblockGrid → Position → Run → Run
rest_of_blocks bytes end origin scale b at r =
    walk (λ m. codeblock bytes end origin scale b (m / b.across) (m % b.across)) at.begun (count_of b - at.begun)
    (area_values bytes end origin scale (area_before b at.begun) at.values r)
