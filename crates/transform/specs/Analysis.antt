-- Document 01, "Synthesis and analysis": analysis, over whole numbers of any size, and the numbers it assigns.
use Rattle.std.specs.Prelude.{ℕ, zero, suc, ◌+◌, ◌-◌, ◌*◌, Bool, true, cond, ◌&&◌, List, [], ◌∷◌, ◌++◌, map, reverse, ltb}
use Rattle.component.specs.Sizes.{size_at}
use Rattle.filters.specs.Lifting.{Step, exchange}
use Rattle.filters.specs.Filters.{Filter}
use Rattle.filters.specs.Passes.{Picture, Pass, columns, rows, double, run_all, all_new_fit}

-- "with the steps in reverse order and types 1 and 2, 3 and 4 exchanged"
unfoldable pub undo_steps : List Step → List Step
undo_steps steps = reverse (map exchange steps)

-- "multiply by 2^shift, filter every row, then every column"
unfoldable pub analysis_passes : Filter → List Pass
analysis_passes f = cond f.shift (double ∷ []) [] ++ (map rows (undo_steps f.steps) ++ map columns (undo_steps f.steps))

-- The even rows and columns: LL.
unfoldable pub low_band : Picture → Picture
low_band P row column = P (2 * row) (2 * column)

-- "separate into the level's four bands; go on with LL": what the rest of the analysis made of LL, of bh rows and bw columns, in its
-- place, and HL, LH and HH in theirs.
unfoldable pub separate : ℕ → ℕ → Picture → Picture → Picture
separate bh bw low P row column =
    cond (ltb row bh)
    (cond (ltb column bw) (low row column) (P (2 * row) (2 * (column - bw) + 1)))
    (cond (ltb column bw) (P (2 * (row - bh) + 1) (2 * column)) (P (2 * (row - bh) + 1) (2 * (column - bw) + 1)))

module _ (f : Filter) (h w : ℕ) where
  -- The picture after the passes of level n + 1.
  unfoldable pub level_analysis : ℕ → Picture → Picture
  level_analysis n P = run_all (size_at h (suc n)) (size_at w (suc n)) (analysis_passes f) P

  -- "Analysis, from depth down to 1": "Its coefficients are the last LL and every level's HL, LH and HH, laid out as in the
  -- coefficient plane; at depth 0 they are the padded plane itself."
  unfoldable pub analysis : ℕ → Picture → Picture
  analysis zero P = P
  analysis (suc n) P =
      let Q = level_analysis n P in
      separate (size_at h n) (size_at w n) (analysis n (low_band Q)) Q

  -- "The numbers it assigns are each element's new number after the multiplication and after each lifting step, at every level":
  -- whether each fits signed 32 bits.
  unfoldable pub analysis_fits : ℕ → Picture → Bool
  analysis_fits zero P = true
  analysis_fits (suc n) P =
      all_new_fit (size_at h (suc n)) (size_at w (suc n)) (analysis_passes f) P && analysis_fits n (low_band (level_analysis n P))
