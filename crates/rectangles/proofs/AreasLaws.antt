-- Laws of the values of a rectangle, counted in raster order.
-- Assumes nothing.
use mathlib.Core.Path.{◌≡◌, ap, ◌∙◌}
use mathlib.Core.Logic.{◌≢◌}
use mathlib.Core.List.{List}
use Prim.Native.Nat.{ℕ, zero, suc, ◌+◌, ◌-◌, ◌*◌, ◌/◌, ◌%◌, ◌≤◌, ◌<◌}
use native.Mathlib.Nat.{mul-add, mul-le-mul, mul-le-mul_right, div-add-mod', mod-lt, div-lt_iff_lt-mul, le-div_iff_mul-le, div-mul-le_self}
use native.Mathlib.Omega.{arith}
use lib.IntN.{ℤ, pos}
use lib.ListN.{length, get_or, set}
use Rattle.base.specs.Walk.{walk}
use Rattle.base.proofs.WalkLaws.{walk-past, walk-flat, walk-up-to}
use Rattle.coefficients.specs.Reading.{Run, value, rectangle_values}
use Rattle.coefficients.specs.Values.{entry, entries}
use Rattle.coefficients.specs.declared.reading.Rectangle.{Rectangle}
use Rattle.coefficients.proofs.ReadingLaws.{Stays}
use Rattle.coefficients.proofs.ValuesLaws.{entries-stay, entries-keep}
use Rattle.rectangles.specs.Areas.{size_of, value_index, area_values, Inside}

-- row and column of value i, in a raster whose rows are `stride` apart
pub raster-index : (w stride i : ℕ) → w ≤ stride → i / w * stride + i % w ≡ i + i / w * (stride - w)
raster-index w stride i wide =
    let whole : i / w * w + i % w ≡ i = div-add-mod' i w in
    let gap : stride ≡ w + (stride - w) = omega arith in
    let across : i / w * stride ≡ i / w * w + i / w * (stride - w) = ap (λ (n : ℕ). i / w * n) gap ∙ mul-add (i / w) w (stride - w) in
    omega arith

-- Value i of a rectangle of w by h: its row and column.
pub record InArea (w h i : ℕ) : Type 0 where
  pub some : 1 ≤ w
  pub row_below : i / w < h
  pub column-below : i % w < w
  pub whole : i / w * w + i % w ≡ i

pub in_area : (w h i : ℕ) → i < h * w → InArea w h i
in_area zero h i below = absurd (omega arith)
in_area (suc n) h i below =
    let some : 0 < suc n = omega arith in
    record { some = omega arith; row_below = (div-lt_iff_lt-mul some).1 below; column-below = mod-lt i some; whole = div-add-mod' i (suc n) }

-- later values go to later entries
pub value-index-grows : (a : Rectangle) (i j : ℕ) → a.width ≤ a.stride → i < j → j < size_of a → value_index a i < value_index a j
unfolding value_index
value-index-grows a i j wide less below =
    let w = a.width in
    let some : 1 ≤ w = (in_area w a.height j below).some in
    let down : i / w * w ≤ i = div-mul-le_self i w in
    let to_j : i / w * w ≤ j = omega arith in
    let rows : i / w ≤ j / w = (le-div_iff_mul-le some).1 to_j in
    let gaps : i / w * (a.stride - w) ≤ j / w * (a.stride - w) = mul-le-mul_right (a.stride - w) rows in
    let here = raster-index w a.stride i wide in
    let there = raster-index w a.stride j wide in
    omega arith

-- a rectangle in a plane has at most 2^24 values, and lies in every plane of that length
pub inside-narrow : {a : Rectangle} {plane : List ℤ} → Inside a plane → a.width ≤ 4096
inside-narrow inside = omega (arith, inside.wide, inside.narrow)

pub inside-small : {a : Rectangle} {plane : List ℤ} → Inside a plane → size_of a ≤ 4096 * 4096
inside-small inside = mul-le-mul inside.tall (inside-narrow inside)

pub inside-same : {a : Rectangle} {first plane : List ℤ} → length plane ≡ length first → Inside a first → Inside a plane
inside-same same inside =
    record { wide = inside.wide; narrow = inside.narrow; tall = inside.tall; rows = λ y below. omega (arith, inside.rows y below) }

-- a value's entry is in the plane
pub value-index-inside : (a : Rectangle) (plane : List ℤ) (i : ℕ) → Inside a plane → i < size_of a → value_index a i < length plane
unfolding value_index
value-index-inside a plane i inside below =
    let here = in_area a.width a.height i below in
    omega (arith, here.column-below, inside.rows (i / a.width) here.row_below)

module _ (bytes : List ℕ) (end origin : ℕ) (scale : ℕ → ℕ) (a : Rectangle) where
  -- all of them, from the first on
  pub area-whole : (r : Run) → rectangle_values bytes end origin scale a r ≡ area_values bytes end origin scale a 0 r
  unfolding rectangle_values area_values entries entry value_index
  area-whole r =
      let all : size_of a ≡ size_of a - 0 = omega arith in
      walk-flat (λ y x. value bytes end origin scale (λ v plane. set plane (a.start + y * a.stride + x) v)) a.width a.height r
      ∙ ap (λ (n : ℕ). walk (λ i. value bytes end origin scale (λ v plane. set plane (a.start + i / a.width * a.stride + i % a.width) v)) 0 n r) all

  -- some of them first
  pub area-first : (i n : ℕ) (r : Run) → i + n ≤ size_of a →
      area_values bytes end origin scale a i r ≡ area_values bytes end origin scale a (i + n) (entries bytes end origin scale (value_index a) i n r)
  unfolding area_values entries
  area-first i n r inside = walk-up-to (entry bytes end origin scale (value_index a)) i n (size_of a) r inside

  -- none is left
  pub area-over : (i : ℕ) (r : Run) → size_of a ≤ i → area_values bytes end origin scale a i r ≡ r
  unfolding area_values entries
  area-over i r past = walk-past (entry bytes end origin scale (value_index a)) i (size_of a) r past

  -- a refused run stays as it is
  pub area-stays : (i : ℕ) → Stays (area_values bytes end origin scale a i)
  unfolding area_values
  area-stays i = entries-stay bytes end origin scale (value_index a) i (size_of a - i)

  -- a rectangle changes no entry but its own
  pub rectangle-keeps : (j : ℕ) → ((i : ℕ) → i < size_of a → value_index a i ≢ j) → (r : Run) →
      get_or (rectangle_values bytes end origin scale a r).plane j (pos 0) ≡ get_or r.plane j (pos 0)
  unfolding area_values
  rectangle-keeps j apart r =
      ap (λ (t : Run). get_or t.plane j (pos 0)) (area-whole r)
      ∙ entries-keep bytes end origin scale (value_index a) 0 (size_of a - 0) j (λ k some below. apart k (omega arith)) r
