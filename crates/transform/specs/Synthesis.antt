-- Document 01, "Synthesis and analysis": synthesis, and the first level that assigns a number outside signed 32 bits.
use Rattle.std.specs.Prelude.{ℕ, zero, suc, ◌+◌, ◌/◌, ◌%◌, Bool, cond, List, [], ◌∷◌, ◌++◌, map, eqb}
use Rattle.component.specs.Sizes.{size_at}
use Rattle.filters.specs.Filters.{Filter}
use Rattle.filters.specs.Passes.{Picture, Pass, columns, rows, halve, run_all, all_new_fit}

-- "filter every column, then every row, then, if the shift is 1, replace each v by floor((v + 1)/2)"
unfoldable pub synthesis_passes : Filter → List Pass
synthesis_passes f = map columns f.steps ++ (map rows f.steps ++ cond f.shift (halve ∷ []) [])

-- "interleave (LL at even row and column, HL at odd column, LH at odd row, HH at both odd)", with bands of bh rows and bw columns:
-- "HL starts at column bw, row 0; LH at column 0, row bh; HH at column bw, row bh" of the coefficients.
unfoldable pub interleave : ℕ → ℕ → Picture → Picture → Picture
interleave bh bw low coefficients row column =
    cond (eqb (row % 2) 0)
    (cond (eqb (column % 2) 0) (low (row / 2) (column / 2)) (coefficients (row / 2) (bw + column / 2)))
    (cond (eqb (column % 2) 0) (coefficients (bh + row / 2) (column / 2)) (coefficients (bh + row / 2) (bw + column / 2)))

module _ (f : Filter) (h w : ℕ) (coefficients : Picture) where
  -- "Depth 0 is LL itself; a picture of depth n is built on the picture of depth n − 1." LL has h rows and w columns.
  unfoldable pub synthesis : ℕ → Picture
  synthesis zero = coefficients
  synthesis (suc n) =
      run_all (size_at h (suc n)) (size_at w (suc n)) (synthesis_passes f)
      (interleave (size_at h n) (size_at w n) (synthesis n) coefficients)

  -- "Refusal 10 looks at each element's new number after each lifting step and after the shift; sums inside a step may be larger." Whether each
  -- number that level n + 1 assigns fits signed 32 bits.
  unfoldable pub level_fits : ℕ → Bool
  level_fits n =
      all_new_fit (size_at h (suc n)) (size_at w (suc n)) (synthesis_passes f)
      (interleave (size_at h n) (size_at w n) (synthesis n) coefficients)

  -- "first such level": the lowest of levels 1 to n that assigns a number outside signed 32 bits, or 0 where none does.
  unfoldable pub first_bad_level : ℕ → ℕ
  first_bad_level zero = 0
  first_bad_level (suc n) = cond (eqb (first_bad_level n) 0) (cond (level_fits n) 0 (suc n)) (first_bad_level n)
