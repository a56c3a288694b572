-- The code's own form: values of a rectangle that are read as far as the data at hand go. No definition of the format rests on it.
use Rattle.std.specs.Prelude.{ℕ, ◌≤◌, ◌<◌, ◌≡◌, ◌≢◌, true, false, Ok, List, ℤ, pos, get_or}
use Rattle.exp_golomb.specs.Begins.{Begins}
use Rattle.coefficients.specs.Reading.{goes_on}
use Rattle.coefficients.specs.Values.{after}
use Rattle.coefficients.specs.Portions.{CloseToEnd}
use Rattle.coefficients.specs.declared.reading.Cursor.{Cursor}
use Rattle.coefficients.specs.declared.reading.Portion.{Portion}
use Rattle.coefficients.specs.declared.reading.Rectangle.{Rectangle}
use Rattle.rectangles.specs.Areas.{size_of, value_index, area_values, ClearFrom}

-- Values of a rectangle from value `from` on were read into a plane, up to the portion's count, whatever data begin with those at hand.
pub record ReadsOn (bytes : List ℕ) (c : Cursor) (scale : ℕ → ℕ) (a : Rectangle) (from : ℕ) (plane : List ℤ) (r : Portion) (last : List ℤ) : Type 0 where
  pub values : (whole : List ℕ) (end : ℕ) → Begins c.stated bytes c.end whole end →
      area_values whole end c.origin scale a from (goes_on c.bit plane) ≡ area_values whole end c.origin scale a r.count (after r.progress last)
  pub onward : from ≤ r.count
  pub kept : (j : ℕ) → ((i : ℕ) → i < size_of a → value_index a i ≢ j) → get_or last j (pos 0) ≡ get_or plane j (pos 0)
  pub clear : ClearFrom a r.count last
  pub before_end : (next : ℕ) → r.progress ≡ Ok next → next ≤ c.end
  pub close_to_end : r.short ≡ true → CloseToEnd bytes c.end r.progress
  pub full : c.stated ≡ true → r.short ≡ false
  pub over : (next : ℕ) → r.progress ≡ Ok next → r.short ≡ false → size_of a ≤ r.count
