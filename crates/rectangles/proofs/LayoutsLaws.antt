-- Laws of layouts: in short rows the reciprocal divides by the width, and in a wide row the gaps before it are counted; so the values are those
-- of the rectangle.
-- Assumes nothing.
use mathlib.Core.Path.{◌≡◌, ap, ◌∙◌}
use Prim.Native.Nat.{ℕ, ◌+◌, ◌-◌, ◌*◌, ◌/◌, ◌≤◌, ◌<◌}
use native.Mathlib.Nat.{add-mul, mul-zero, mul-le-mul, mul-le-mul_right, div-le_self, div-eq_of_lt-le}
use native.Mathlib.Omega.{arith}
use Rattle.base.proofs.Reciprocals.{reciprocal-divides}
use Rattle.coefficients.specs.Values.{index_of}
use Rattle.coefficients.specs.declared.reading.Rectangle.{Rectangle}
use Rattle.coefficients.specs.declared.values.Layout.{Layout}
use Rattle.rectangles.specs.Areas.{size_of, value_index}
use Rattle.rectangles.specs.Layouts.{Covers}
use Rattle.rectangles.proofs.AreasLaws.{in_area, raster-index}

module _ (a : Rectangle) (wide : a.width ≤ a.stride) (i : ℕ) (below : i < size_of a) where
  -- a value stands after as many gaps as there are rows before its own
  gaps : (l : Layout) (k : ℕ) → l.start + k + k * l.reciprocal / 16777216 * l.gap ≡ a.start + k + k / a.width * (a.stride - a.width) → index_of l k ≡ value_index a k
  unfolding index_of value_index
  gaps l k same = same ∙ (omega (arith, raster-index a.width a.stride k wide))

  -- short rows
  pub covers-all : a.width ≤ 64 → a.height ≤ 4096 →
      Covers a i (record { start = a.start; count = size_of a; reciprocal = 16777216 / a.width + 1; gap = a.stride - a.width })
  covers-all short tall =
      let here = in_area a.width a.height i below in
      let area : size_of a ≤ 4096 * 64 = mul-le-mul tall short in
      record {
        some = below;
        few = omega arith;
        low = omega (arith, div-le_self 16777216 a.width);
        each = λ k late inside.
            let few : k + 1 ≤ 4096 * 64 = omega arith in
            let product : (k + 1) * a.width ≤ 4096 * 64 * 64 = mul-le-mul few short in
            let more : (k + 1) * a.width ≡ k * a.width + 1 * a.width = add-mul k 1 a.width in
            gaps _ k (ap (λ (n : ℕ). a.start + k + n * (a.stride - a.width)) (reciprocal-divides 16777216 a.width k here.some (omega (arith, here.some))));
      }

  -- one row
  pub covers-row : (row : ℕ) → row ≡ i / a.width →
      Covers a i (record { start = a.start + row * (a.stride - a.width); count = (row + 1) * a.width; reciprocal = 0; gap = a.stride - a.width })
  covers-row row e =
      let here = in_area a.width a.height i below in
      let rows : row * a.width ≡ i / a.width * a.width = ap (λ (n : ℕ). n * a.width) e in
      let more : (row + 1) * a.width ≡ row * a.width + 1 * a.width = add-mul row 1 a.width in
      let all : (row + 1) * a.width ≤ size_of a = mul-le-mul_right a.width (omega (arith, here.row_below)) in
      record {
        some = omega (arith, here.whole, here.column-below);
        few = all;
        low = omega arith;
        each = λ k late inside.
            let same_row : k / a.width ≡ row = div-eq_of_lt-le a.width (omega (arith, here.whole)) inside in
            gaps _ k (rw (same_row, mul-zero k) (omega arith));
      }

  -- the only one
  pub covers-only : a.height ≡ 1 → Covers a i (record { start = a.start; count = a.width; reciprocal = 0; gap = a.stride - a.width })
  covers-only single =
      let first : 0 ≡ i / a.width = omega (arith, (in_area a.width a.height i below).row_below) in
      let start_is : a.start + 0 * (a.stride - a.width) ≡ a.start = omega arith in
      let count-is : (0 + 1) * a.width ≡ a.width = omega arith in
      rw (start_is, count-is) at (covers-row 0 first)
