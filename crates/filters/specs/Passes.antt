-- Document 01, "Synthesis and analysis": the passes that a level is made of, and the numbers that they assign.
-- A picture is a function from row and column to whole numbers of any size.
use Rattle.std.specs.Prelude.{ℕ, Bool, true, not, ◌&&◌, ◌||◌, List, [], ◌∷◌, ℤ, pos, ◌+ℤ◌, ◌*ℤ◌}
use Rattle.base.specs.Floor.{floor_div}
use Rattle.base.specs.Range.{fits32}
use Rattle.base.specs.Every.{all_below}
use Rattle.filters.specs.Lifting.{Step, lift, changes}

abbrev pub Picture : Type 0
Picture = ℕ → ℕ → ℤ

-- What a level is made of: a step on every column, a step on every row, and the two forms of the shift.
pub data Pass : Type 0 where
  columns : Step → Pass
  rows : Step → Pass
  halve : Pass
  double : Pass

-- One pass over a picture of a height and a width. "replace each v by floor((v + 1)/2)"; "multiply by 2^shift"
unfoldable pub run : ℕ → ℕ → Pass → Picture → Picture
run h w (columns s) P row column = lift s h (λ r. P r column) row
run h w (rows s) P row column = lift s w (P row) column
run h w halve P row column = floor_div (P row column +ℤ pos 1) 2
run h w double P row column = pos 2 *ℤ P row column

unfoldable pub run_all : ℕ → ℕ → List Pass → Picture → Picture
run_all h w [] P = P
run_all h w (p ∷ ps) P = run_all h w ps (run h w p P)

-- "each element's new number": whether a pass gives the element one
unfoldable pub assigns : Pass → ℕ → ℕ → Bool
assigns (columns s) row column = changes s.type row
assigns (rows s) row column = changes s.type column
assigns halve row column = true
assigns double row column = true

-- Whether each new number of a pass fits signed 32 bits, P being the picture after it.
unfoldable pub new_fit : ℕ → ℕ → Pass → Picture → Bool
new_fit h w p P = all_below h (λ row. all_below w (λ column. not (assigns p row column) || fits32 (P row column)))

-- Whether each new number of each pass does.
unfoldable pub all_new_fit : ℕ → ℕ → List Pass → Picture → Bool
all_new_fit h w [] P = true
all_new_fit h w (p ∷ ps) P = new_fit h w p (run h w p P) && all_new_fit h w ps (run h w p P)
