-- Laws of the levels' frames: the picture of depth n stands in the work plane with rows that are apart, and the level below in every
-- other row of it.
-- Assumes nothing.
use mathlib.Core.Path.{◌≡◌, sym, ap, ◌∙◌, subst}
use mathlib.Core.List.{List}
use mathlib.Core.Bool.{true}
use Prim.Native.Nat.{ℕ, suc, ◌+◌, ◌-◌, ◌*◌, ◌%◌, ◌^◌, ◌≤◌, ◌<◌}
use native.Mathlib.Nat.{mul_assoc, mul_comm, mul-one, mul-le-mul_left, mul-le-mul_right, pow-suc}
use native.Mathlib.Omega.{arith}
use lib.IntN.{ℤ, pos}
use lib.ListN.{length, get_or}
use lib.Pow.{pow_pos, shl_exact}
use Rattle.base.specs.Lists.{zeros_like}
use Rattle.component.specs.Sizes.{size_at, padded_size}
use Rattle.component.specs.Checks.{sizes_in_range, depth_in_range, area_of}
use Rattle.component.specs.declared.parameters.Parameters.{Parameters}
use Rattle.component.proofs.SizesLaws.{size_at-power, size_at-mono, size_at-least, size_at-rest, size_at-padded, low-some, padded-least, padded-most}
use Rattle.component.proofs.ChecksLaws.{width-least, width_most, height-least, height_most, depth_most}
use Rattle.lifting.specs.Layout.{FrameFits}
use Rattle.filters.specs.Planes.{picture_of}
use Rattle.lifting.specs.declared.frame.Frame.{Frame}
use Rattle.transform.specs.Geometry.{Geometry, extent_of}
use Rattle.transform.specs.declared.levels.Extent.{Extent}
use Rattle.filters.proofs.PlanesLaws.{all-zeros}

-- a size shifted up by at most 4 loses nothing
pub size-shifted : (size k : ℕ) → size ≤ 4096 → k ≤ 4 → (size * 2 ^ k) % 2 ^ 64 ≡ size * 2 ^ k
size-shifted size k small few = shl_exact 13 k 64 (omega arith) (omega arith)

-- the low band stands apart in the coefficient plane and in the work plane
module _ (e : Extent) (area : ℕ) (g : Geometry e area) where
  pub low_narrow : e.low_columns ≤ e.padded_width
  unfolding size_at
  low_narrow = rw g.width (size_at-mono e.low_columns 0 e.depth (omega arith))

  pub low-apart : e.low_columns ≤ e.padded_width * 2 ^ e.depth
  low-apart = omega (arith, low_narrow, rw mul-one at (mul-le-mul_left e.padded_width (pow_pos e.depth)))

  pub low-inside : e.low_rows * (e.padded_width * 2 ^ e.depth) ≤ area
  low-inside =
      rw (mul_comm e.padded_width (2 ^ e.depth), ← mul_assoc e.low_rows (2 ^ e.depth) e.padded_width, ← size_at-power e.low_rows e.depth, g.whole)
      (omega arith)

  pub low-whole : e.low_rows * e.padded_width ≤ area
  unfolding size_at
  low-whole =
      subst (λ (k : ℕ). e.low_rows * e.padded_width ≤ k) g.whole
      (mul-le-mul_right e.padded_width (size_at-mono e.low_rows 0 e.depth (omega arith)))

  -- and is small
  pub low-rows-most : e.low_rows ≤ 4096
  unfolding size_at
  low-rows-most = omega (arith, size_at-mono e.low_rows 0 e.depth (omega arith), g.height_most)

  pub low-columns-most : e.low_columns ≤ 4096
  low-columns-most = omega (arith, low_narrow, g.width_most)

-- a fact about four numbers, carried to equal ones
carried : (P : ℕ → ℕ → ℕ → ℕ → Type 0) (a b s t a' b' s' t' : ℕ) → a ≡ a' → b ≡ b' → s ≡ s' → t ≡ t' → P a b s t → P a' b' s' t'
carried P a b s t a' b' s' t' ea eb es et h =
    subst (λ (x : ℕ). P x b' s' t') ea (subst (λ (x : ℕ). P a x s' t') eb (subst (λ (x : ℕ). P a b x t') es (subst (λ (x : ℕ). P a b s x) et h)))

module _ (e : Extent) (area : ℕ) (g : Geometry e area) (m : ℕ) (deep : suc m ≤ e.depth) where
  -- the picture of depth m + 1 fits the plane, its rows and columns too
  next-rows : 2 * size_at e.low_rows m ≤ size_at e.low_rows e.depth
  unfolding size_at
  next-rows = size_at-mono e.low_rows (suc m) e.depth deep

  pub next-columns : 2 * size_at e.low_columns m ≤ e.padded_width
  unfolding size_at
  next-columns = rw g.width (size_at-mono e.low_columns (suc m) e.depth deep)

  pub rows_whole : 2 * size_at e.low_rows m * e.padded_width ≤ area
  rows_whole = subst (λ (k : ℕ). 2 * size_at e.low_rows m * e.padded_width ≤ k) g.whole (mul-le-mul_right e.padded_width next-rows)

  stride-rows : 2 * size_at e.low_rows m * (e.padded_width * 2 ^ (e.depth - suc m)) ≡ area
  unfolding size_at
  stride-rows =
      let rest = size_at-rest e.low_rows (suc m) e.depth deep in
      rw (mul_comm e.padded_width (2 ^ (e.depth - suc m)), ← mul_assoc (2 * size_at e.low_rows m) (2 ^ (e.depth - suc m)) e.padded_width, rest)
      g.whole

  stride-wide : e.padded_width ≤ e.padded_width * 2 ^ (e.depth - suc m)
  stride-wide = rw mul-one at (mul-le-mul_left e.padded_width (pow_pos (e.depth - suc m)))

  -- so a frame of those sizes is placed
  pub placed : (f : Frame) → f.stride ≡ e.padded_width * 2 ^ (e.depth - suc m) → f.band_rows ≡ size_at e.low_rows m → f.band_columns ≡ size_at e.low_columns m →
      (plane : List ℤ) → length plane ≡ area → FrameFits f plane
  placed f stride rows columns plane long =
      record {
        rows_least = rw rows (size_at-least e.low_rows m g.rows_least);
        rows_most = rw rows (omega (arith, next-rows, g.height_most));
        columns_least = rw columns (size_at-least e.low_columns m g.columns_least);
        columns_most = rw columns (omega (arith, next-columns, g.width_most));
        apart = rw (columns, stride) (omega (arith, next-columns, stride-wide));
        inside = rw (rows, stride, long) (omega (arith, stride-rows));
      }

  -- the picture below stands twice as far apart
  pub double-stride : 2 * (e.padded_width * 2 ^ (e.depth - suc m)) ≡ e.padded_width * 2 ^ (e.depth - m)
  double-stride =
      let up : e.depth - m ≡ suc (e.depth - suc m) = omega arith in
      rw (up, pow-suc 2 (e.depth - suc m), ← mul_assoc e.padded_width (2 ^ (e.depth - suc m)) 2) (mul_comm 2 (e.padded_width * 2 ^ (e.depth - suc m)))

  -- what holds of a frame's sizes holds of those that the extent gives
  pub by-sizes : (f : Frame) → f.stride ≡ e.padded_width * 2 ^ (e.depth - suc m) → f.band_rows ≡ size_at e.low_rows m → f.band_columns ≡ size_at e.low_columns m →
      (P : ℕ → ℕ → ℕ → ℕ → Type 0) → P f.band_rows f.band_columns f.stride (2 * f.stride) →
      P (size_at e.low_rows m) (size_at e.low_columns m) (e.padded_width * 2 ^ (e.depth - suc m)) (e.padded_width * 2 ^ (e.depth - m))
  by-sizes f stride rows columns P holds = carried P _ _ _ _ _ _ _ _ rows columns stride (ap (λ (s : ℕ). 2 * s) stride ∙ double-stride) holds

  -- at the last level its rows are the whole plane
  pub cleared-all : (f : Frame) → f.stride ≡ e.padded_width * 2 ^ (e.depth - suc m) → f.band_rows ≡ size_at e.low_rows m → f.band_columns ≡ size_at e.low_columns m →
      suc m ≡ e.depth → (plane plane₀ : List ℤ) → length plane ≡ area → length plane₀ ≡ area →
      ((row x : ℕ) → row < 2 * f.band_rows → x < 2 * f.band_columns → get_or plane (row * f.stride + x) (pos 0) ≡ pos 0) → plane ≡ zeros_like plane₀
  unfolding size_at picture_of
  cleared-all f stride rows columns last plane plane₀ long long₀ zeros =
      let none : e.depth - suc m ≡ 0 = omega arith in
      let wide : f.stride ≡ e.padded_width = stride ∙ rw none (mul-one e.padded_width) in
      let whole : 2 * size_at e.low_columns m ≡ e.padded_width = subst (λ (k : ℕ). size_at e.low_columns k ≡ e.padded_width) (sym last) (sym g.width) in
      let all : 2 * f.band_rows * f.stride ≡ area = rw (rows, stride) stride-rows in
      all-zeros (2 * f.band_rows) f.stride plane plane₀ (omega (arith, wide, whole, size_at-least e.low_columns m g.columns_least)) (long ∙ sym all) (long₀ ∙ sym all)
      (λ row x r c. zeros row x r (omega (arith, wide, whole, columns)))

-- the geometry of parameters that passed the checks
pub geometry-of : (p : Parameters) → sizes_in_range p ≡ true → depth_in_range p ≡ true → (area : ℕ) → area ≡ area_of p → Geometry (extent_of p) area
unfolding extent_of area_of
geometry-of p sizes depth area is =
    let deep = depth_most p depth in
    record {
      depth_most = deep;
      rows_least = low-some p.depth p.height (height-least p sizes);
      columns_least = low-some p.depth p.width (width-least p sizes);
      width = sym (size_at-padded p.depth p.width);
      width_most = padded-most p.depth deep p.width (width_most p sizes);
      height_most = rw (size_at-padded p.depth p.height) (padded-most p.depth deep p.height (height_most p sizes));
      whole = rw (size_at-padded p.depth p.height) (mul_comm (padded_size p.depth p.height) (padded_size p.depth p.width) ∙ sym is);
      narrower = rw (size_at-padded p.depth p.width) (padded-least p.depth p.width);
      shorter = rw (size_at-padded p.depth p.height) (padded-least p.depth p.height);
    }
