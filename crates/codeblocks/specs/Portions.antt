-- The code's own form: codeblocks that are read as far as the data at hand go. No definition of the format rests on it.
use Rattle.std.specs.Prelude.{ℕ, ◌≤◌, ◌≡◌, true, false, Ok, List, ℤ}
use Rattle.exp_golomb.specs.Begins.{Begins}
use Rattle.coefficients.specs.Reading.{goes_on}
use Rattle.coefficients.specs.Values.{after}
use Rattle.coefficients.specs.Portions.{CloseToEnd}
use Rattle.coefficients.specs.declared.reading.Cursor.{Cursor}
use Rattle.rectangles.specs.Areas.{size_of}
use Rattle.codeblocks.specs.Blocks.{count_of, area_before}
use Rattle.codeblocks.specs.Rest.{ClearBlocks, rest_of_blocks}
use Rattle.codeblocks.specs.declared.CodeblockGrid.{CodeblockGrid}
use Rattle.codeblocks.specs.declared.Position.{Position}
use Rattle.codeblocks.specs.declared.Reached.{Reached}

-- Codeblocks were read into a plane from a position on, up to the one reached, whatever data begin with those at hand.
pub record BlocksRead (bytes : List ℕ) (c : Cursor) (scale : ℕ → ℕ) (b : CodeblockGrid) (from : Position) (plane : List ℤ) (r : Reached) (last : List ℤ) : Type 0 where
  pub values : (whole : List ℕ) (end : ℕ) → Begins c.stated bytes c.end whole end →
      rest_of_blocks whole end c.origin scale b from (goes_on c.bit plane) ≡ rest_of_blocks whole end c.origin scale b r.position (after r.progress last)
  pub most : r.position.begun ≤ count_of b
  pub clear : ClearBlocks b r.position last
  pub before_end : (next : ℕ) → r.progress ≡ Ok next → next ≤ c.end
  pub close_to_end : r.short ≡ true → CloseToEnd bytes c.end r.progress
  pub full : c.stated ≡ true → r.short ≡ false
  pub over : (next : ℕ) → r.progress ≡ Ok next → r.short ≡ false →
      (count_of b ≤ r.position.begun) × (size_of (area_before b r.position.begun) ≤ r.position.values)
