-- The code's own forms: the values of a rectangle, counted in raster order. No definition of the format rests on them.
use Rattle.std.specs.Prelude.{ℕ, ◌+◌, ◌-◌, ◌*◌, ◌/◌, ◌%◌, ◌≤◌, ◌<◌, List, ℤ, length}
use Rattle.coefficients.specs.Reading.{Run}
use Rattle.coefficients.specs.Values.{entries, Clear}
use Rattle.coefficients.specs.declared.reading.Rectangle.{Rectangle}

-- How many values a rectangle has, and the entry of the plane that value i goes to.
abbrev pub size_of : Rectangle → ℕ
size_of a = a.height * a.width

unfoldable pub value_index : Rectangle → ℕ → ℕ
value_index a i = a.start + i / a.width * a.stride + i % a.width

-- The values of a rectangle from value i on.
unfoldable pub area_values : List ℕ → ℕ → ℕ → (ℕ → ℕ) → Rectangle → ℕ → Run → Run
area_values bytes end origin scale a i r = entries bytes end origin scale (value_index a) i (size_of a - i) r

-- A rectangle lies in a plane.
pub record Inside (a : Rectangle) (plane : List ℤ) : Type 0 where
  pub wide : a.width ≤ a.stride
  pub narrow : a.stride ≤ 4096
  pub tall : a.height ≤ 4096
  pub rows : (y : ℕ) → y < a.height → a.start + y * a.stride + a.width ≤ length plane

-- The entries of its values from value i on hold zeros.
abbrev pub ClearFrom : Rectangle → ℕ → List ℤ → Type 0
ClearFrom a i plane = Clear (value_index a) i (size_of a) plane
