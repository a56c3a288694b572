-- The code's own form: a layout of a rectangle's values. No definition of the format rests on it.
use Rattle.std.specs.Prelude.{ℕ, ◌≤◌, ◌<◌, ◌≡◌}
use Rattle.coefficients.specs.Values.{index_of}
use Rattle.coefficients.specs.declared.reading.Rectangle.{Rectangle}
use Rattle.coefficients.specs.declared.values.Layout.{Layout}
use Rattle.rectangles.specs.Areas.{size_of, value_index}

-- A layout has the values of a rectangle from value i on, up to its count.
pub record Covers (a : Rectangle) (i : ℕ) (l : Layout) : Type 0 where
  pub some : i < l.count
  pub few : l.count ≤ size_of a
  pub low : l.reciprocal ≤ 16777217
  pub each : (k : ℕ) → i ≤ k → k < l.count → index_of l k ≡ value_index a k
