-- Synthesis after analysis, over any filter, sizes and depth: its passes undo those of analysis, it gives the picture back, and where analysis stays in
-- signed 32 bits no level of synthesis leaves them.
-- Assumes nothing.
use mathlib.Core.Path.{◌≡◌, refl, ap, ◌∙◌, fun_ext, sym, ap₂}
use mathlib.Core.Bool.{Bool, true, false, cond, ◌&&◌}
use mathlib.Core.List.{List, [], ◌∷◌, ◌++◌, map, append_assoc, reverse_aux-eq, map-append}
use Prim.Native.Nat.{ℕ, zero, suc, ◌+◌, ◌-◌, ◌*◌, ◌/◌, ◌%◌, ◌≤◌, ◌<◌}
use native.Mathlib.Nat.{mul-suc, add-sub_cancel_left}
use native.Mathlib.Numerals.{add-two}
use native.Mathlib.Omega.{arith}
use native.Mathlib.Decide.{ℕ_discrete, dec_lt}
use lib.IntN.{ℤ, pos, negsuc, ◌+ℤ◌, ◌*ℤ◌, suc_ℤ, +ℤ_one}
use lib.Dec.{eqb}
use borrow.Author.Tests.{lt-ltb, le-ltb, eq-eqb, ne_eqb}
use Rattle.base.specs.Floor.{floor_div}
use Rattle.base.proofs.Booleans.{and_left, and_right, and-true}
use Rattle.filters.specs.Lifting.{Step, exchange}
use Rattle.filters.specs.Filters.{Filter}
use Rattle.filters.specs.Passes.{Picture, Pass, columns, rows, halve, double, run, run_all, all_new_fit}
use Rattle.filters.proofs.LiftingLaws.{EvenLength, undoes-exchange}
use Rattle.filters.proofs.PassesLaws.{AllFit, new-all, run_all-fits, run_all-append, all_new_fit-append, run_all-same, all_new_fit-same}
use Rattle.transform.specs.Synthesis.{synthesis_passes, interleave, synthesis, level_fits, first_bad_level}
use Rattle.transform.specs.Analysis.{undo_steps, analysis_passes, low_band, separate, level_analysis, analysis, analysis_fits}
use Rattle.component.specs.Sizes.{size_at}
use Rattle.component.proofs.SizesLaws.{size_at-least}
use Rattle.filters.specs.Pictures.{Agree}

-- halving undoes doubling
halve-double : (v : ℤ) → floor_div (pos 2 *ℤ v +ℤ pos 1) 2 ≡ v
halve-double v = ap (λ (z : ℤ). floor_div z 2) (+ℤ_one (pos 2 *ℤ v)) ∙ half v
  where
    half : (v : ℤ) → floor_div (suc_ℤ (pos 2 *ℤ v)) 2 ≡ v
    half (pos a) = ap pos (omega arith)
    half (negsuc a) = rw (mul-suc, add-two) (ap negsuc (omega arith))

-- Passes qs undo passes ps: they give the picture back, and where it fits and the new numbers of ps fit, theirs fit.
pub record Undo (h w : ℕ) (ps qs : List Pass) : Type 0 where
  pub back : (P : Picture) → run_all h w qs (run_all h w ps P) ≡ P
  pub fits : (P : Picture) → AllFit h w P → all_new_fit h w ps P ≡ true → all_new_fit h w qs (run_all h w ps P) ≡ true

module _ (h w : ℕ) where
  -- no pass undoes no pass
  undo-none : Undo h w [] []
  unfolding run_all all_new_fit
  undo-none = record { back = λ P. refl; fits = λ P fit new. refl }

  -- a pass that gives every element back undoes a pass
  undo-one :
      (p q : Pass) → ((P : Picture) (row column : ℕ) → run h w q (run h w p P) row column ≡ P row column)
      → Undo h w (p ∷ []) (q ∷ [])
  unfolding run_all all_new_fit
  undo-one p q back =
      let whole : (P : Picture) → run h w q (run h w p P) ≡ P = λ P. fun_ext (λ row. fun_ext (back P row)) in
      record {
        back = whole;
        fits = λ P fit new. rw whole (and-true _ _ (new-all h w q P (λ row column r c assigned. fit row column r c)) refl);
      }

  -- passes after passes are undone in reverse order
  undo-both : {ps qs rs ts : List Pass} → Undo h w ps qs → Undo h w rs ts → Undo h w (ps ++ rs) (ts ++ qs)
  undo-both {ps} {qs} {rs} {ts} u v =
      record {
        back = λ P. rw (run_all-append h w ps rs P, run_all-append h w ts qs, v.back (run_all h w ps P)) (u.back P);
        fits = λ P fit new.
            let both : all_new_fit h w ps P && all_new_fit h w rs (run_all h w ps P) ≡ true = rw (all_new_fit-append h w ps rs P) at new in
            let first = and_left _ _ both in
            let second = and_right (all_new_fit h w ps P) _ both in
            rw (run_all-append h w ps rs P, all_new_fit-append h w ts qs, v.back (run_all h w ps P))
            (and-true _ _ (v.fits (run_all h w ps P) (run_all-fits h w ps P fit first) second) (u.fits P fit first));
      }

  -- the exchanged steps in reverse order, on the columns or on the rows, are undone by the steps
  undo-steps :
      (pass : Step → Pass) → ((s : Step) → Undo h w (pass (exchange s) ∷ []) (pass s ∷ []))
      → (steps : List Step) → Undo h w (map pass (undo_steps steps)) (map pass steps)
  unfolding undo_steps
  undo-steps pass one [] = undo-none
  undo-steps pass one (s ∷ ss) =
      rw (reverse_aux-eq (map exchange ss) (exchange s ∷ []), map-append pass) (undo-both (undo-steps pass one ss) (one s))

  -- halving undoes the multiplication, where there is a shift
  undo-shift : (shift : Bool) → Undo h w (cond shift (double ∷ []) []) (cond shift (halve ∷ []) [])
  unfolding run
  undo-shift true = undo-one double halve (λ P row column. halve-double (P row column))
  undo-shift false = undo-none

module _ (h w : ℕ) (tall : EvenLength h) (wide : EvenLength w) where
  -- the passes of a level's synthesis undo those of its analysis
  pub undo-level : (f : Filter) → Undo h w (analysis_passes f) (synthesis_passes f)
  unfolding run analysis_passes synthesis_passes
  undo-level f =
      let on_rows = undo-steps h w rows (λ s. undo-one h w (rows (exchange s)) (rows s) (λ P r. undoes-exchange w wide s (P r))) f.steps in
      let on_columns =
      undo-steps h w columns (λ s. undo-one h w (columns (exchange s)) (columns s) (λ P r c. undoes-exchange h tall s (λ k. P k c) r)) f.steps in
      rw append_assoc at (undo-both h w (undo-shift h w f.shift) (undo-both h w on_rows on_columns))

-- a number from its half and its parity
from-half : (x : ℕ) → cond (eqb (x % 2) 0) (2 * (x / 2)) (2 * (x / 2) + 1) ≡ x
from-half x =
    elim (ℕ_discrete (x % 2) 0) [
      | yes even ↦ rw (eq-eqb (x % 2) 0 even) (omega arith)
      | no odd ↦ rw (ne_eqb (x % 2) 0 odd) (omega arith)
    ]

-- a choice among four elements is a choice of row and a choice of column
choice :
    (P : Picture) (a b : Bool) (r₁ r₂ c₁ c₂ : ℕ)
    → cond a (cond b (P r₁ c₁) (P r₁ c₂)) (cond b (P r₂ c₁) (P r₂ c₂)) ≡ P (cond a r₁ r₂) (cond b c₁ c₂)
choice P true true r₁ r₂ c₁ c₂ = refl
choice P true false r₁ r₂ c₁ c₂ = refl
choice P false true r₁ r₂ c₁ c₂ = refl
choice P false false r₁ r₂ c₁ c₂ = refl

-- what stands in LL's from-half after the separation
separate-low : (bh bw : ℕ) (low P : Picture) → Agree bh bw (separate bh bw low P) low
unfolding separate
separate-low bh bw low P row column r c = rw (lt-ltb row bh, lt-ltb column bw)

-- interleaving undoes the separation
interleave-back :
    (bh bw : ℕ) (low rest coefficients P : Picture) → Agree bh bw low (low_band P)
    → Agree (2 * bh) (2 * bw) coefficients (separate bh bw rest P) → Agree (2 * bh) (2 * bw) (interleave bh bw low coefficients) P
unfolding interleave separate low_band
interleave-back bh bw low rest coefficients P lows others row column r c =
    let half_row : row / 2 < bh = omega arith in
    let half_column : column / 2 < bw = omega arith in
    let LL = lows (row / 2) (column / 2) half_row half_column in
    let HL = others (row / 2) (bw + column / 2) (omega arith) (omega arith) in
    let LH = others (bh + row / 2) (column / 2) (omega arith) (omega arith) in
    let HH = others (bh + row / 2) (bw + column / 2) (omega arith) (omega arith) in
    let low_row = lt-ltb (row / 2) bh half_row in
    let low_column = lt-ltb (column / 2) bw half_column in
    let high_row = le-ltb (bh + row / 2) bh (omega arith) in
    let high_column = le-ltb (bw + column / 2) bw (omega arith) in
    rw (LL, HL, LH, HH, low_row, low_column, high_row, high_column, add-sub_cancel_left bh, add-sub_cancel_left bw, choice P)
    (ap₂ P (from-half row) (from-half column))

-- the sizes of the picture of a depth from 1 on are even
size_at-even : (size n : ℕ) → 1 ≤ size → EvenLength (size_at size (suc n))
unfolding size_at
size_at-even size n some = record { even = omega arith; some = omega (arith, size_at-least size n some) }

-- What the rest of the analysis goes on with after the passes of level n + 1.
abbrev low_after : Filter → ℕ → ℕ → ℕ → Picture → Picture
low_after f h w n P = low_band (level_analysis f h w n P)

module _ (f : Filter) (h w : ℕ) (tall : 1 ≤ h) (wide : 1 ≤ w) where
  -- the passes of level n + 1 are undone
  level-undo : (n : ℕ) → Undo (size_at h (suc n)) (size_at w (suc n)) (analysis_passes f) (synthesis_passes f)
  level-undo n = undo-level (size_at h (suc n)) (size_at w (suc n)) (size_at-even h n tall) (size_at-even w n wide) f

  -- Coefficients that agree with the analysis of a picture of depth n + 1.
  module _ (n : ℕ) (P coefficients : Picture) (same : Agree (size_at h (suc n)) (size_at w (suc n)) coefficients (analysis f h w (suc n) P)) where
    -- they agree with the analysis of its LL
    low-agrees : Agree (size_at h n) (size_at w n) coefficients (analysis f h w n (low_after f h w n P))
    unfolding size_at analysis
    low-agrees row column r c =
        same row column (omega arith) (omega arith)
        ∙ separate-low (size_at h n) (size_at w n) (analysis f h w n (low_after f h w n P)) (level_analysis f h w n P) row column r c

    -- Synthesis gives LL back.
    module _ (lows : Agree (size_at h n) (size_at w n) (synthesis f h w coefficients n) (low_after f h w n P)) where
      -- interleaving gives the picture after the passes of the level's analysis
      level-agrees :
          Agree (size_at h (suc n)) (size_at w (suc n))
          (interleave (size_at h n) (size_at w n) (synthesis f h w coefficients n) coefficients) (level_analysis f h w n P)
      unfolding size_at analysis
      level-agrees =
          interleave-back (size_at h n) (size_at w n) (synthesis f h w coefficients n)
          (analysis f h w n (low_after f h w n P)) coefficients (level_analysis f h w n P) lows same

      -- the level's synthesis gives the picture back
      level-back : Agree (size_at h (suc n)) (size_at w (suc n)) (synthesis f h w coefficients (suc n)) P
      unfolding synthesis level_analysis
      level-back row column r c =
          run_all-same (size_at h (suc n)) (size_at w (suc n)) (size_at-even h n tall) (size_at-even w n wide)
          (synthesis_passes f) _ _ level-agrees row column r c
          ∙ ap (λ (Q : Picture). Q row column) ((level-undo n).back P)

      -- and its numbers fit
      level-fits :
          AllFit (size_at h (suc n)) (size_at w (suc n)) P
          → all_new_fit (size_at h (suc n)) (size_at w (suc n)) (analysis_passes f) P ≡ true → level_fits f h w coefficients n ≡ true
      unfolding level_fits level_analysis
      level-fits fit new =
          all_new_fit-same (size_at h (suc n)) (size_at w (suc n)) (size_at-even h n tall) (size_at-even w n wide)
          (synthesis_passes f) _ _ (λ row column r c. sym (level-agrees row column r c)) ((level-undo n).fits P fit new)

  -- synthesis of a picture's analysis gives the picture back
  pub synthesis-back :
      (n : ℕ) (P coefficients : Picture) → Agree (size_at h n) (size_at w n) coefficients (analysis f h w n P)
      → Agree (size_at h n) (size_at w n) (synthesis f h w coefficients n) P
  unfolding analysis synthesis
  synthesis-back zero P coefficients same = same
  synthesis-back (suc n) P coefficients same =
      level-back n P coefficients same (synthesis-back n (low_after f h w n P) coefficients (low-agrees n P coefficients same))

  -- where a picture and the numbers of a level's analysis fit, what the analysis goes on with fits
  low_fits :
      (n : ℕ) (P : Picture) → AllFit (size_at h (suc n)) (size_at w (suc n)) P
      → all_new_fit (size_at h (suc n)) (size_at w (suc n)) (analysis_passes f) P ≡ true → AllFit (size_at h n) (size_at w n) (low_after f h w n P)
  unfolding low_band level_analysis size_at
  low_fits n P fit new row column r c =
      run_all-fits (size_at h (suc n)) (size_at w (suc n)) (analysis_passes f) P fit new (2 * row) (2 * column) (omega arith) (omega arith)

  -- where a picture and the numbers of its analysis fit, its coefficients fit
  pub analysis-in-range :
      (n : ℕ) (P : Picture) → AllFit (size_at h n) (size_at w n) P → analysis_fits f h w n P ≡ true → AllFit (size_at h n) (size_at w n) (analysis f h w n P)
  unfolding analysis analysis_fits separate level_analysis size_at
  analysis-in-range zero P fit new row column r c = fit row column r c
  analysis-in-range (suc n) P fit new row column r c =
      let level = and_left _ _ new in
      let rest = and_right (all_new_fit (size_at h (suc n)) (size_at w (suc n)) (analysis_passes f) P) _ new in
      let all = run_all-fits (size_at h (suc n)) (size_at w (suc n)) (analysis_passes f) P fit level in
      let low = analysis-in-range n (low_after f h w n P) (low_fits n P fit level) rest in
      elim (dec_lt row (size_at h n)) [
        | yes upper ↦
            elim (dec_lt column (size_at w n)) [
              | yes left ↦ rw (lt-ltb row (size_at h n) upper, lt-ltb column (size_at w n) left) (low row column upper left)
              | no right ↦
                  rw (lt-ltb row (size_at h n) upper, le-ltb column (size_at w n) (omega arith))
                  (all (2 * row) (2 * (column - size_at w n) + 1) (omega arith) (omega arith))
            ]
        | no lower ↦
            elim (dec_lt column (size_at w n)) [
              | yes left ↦
                  rw (le-ltb row (size_at h n) (omega arith), lt-ltb column (size_at w n) left)
                  (all (2 * (row - size_at h n) + 1) (2 * column) (omega arith) (omega arith))
              | no right ↦
                  rw (le-ltb row (size_at h n) (omega arith), le-ltb column (size_at w n) (omega arith))
                  (all (2 * (row - size_at h n) + 1) (2 * (column - size_at w n) + 1) (omega arith) (omega arith))
            ]
      ]

  -- where a picture and the numbers of its analysis fit, no level of synthesis is bad
  pub synthesis-fits :
      (n : ℕ) (P coefficients : Picture) → Agree (size_at h n) (size_at w n) coefficients (analysis f h w n P)
      → AllFit (size_at h n) (size_at w n) P → analysis_fits f h w n P ≡ true → first_bad_level f h w coefficients n ≡ 0
  unfolding analysis_fits first_bad_level
  synthesis-fits zero P coefficients same fit new = refl
  synthesis-fits (suc n) P coefficients same fit new =
      let level = and_left _ _ new in
      let rest = and_right (all_new_fit (size_at h (suc n)) (size_at w (suc n)) (analysis_passes f) P) _ new in
      let low = low-agrees n P coefficients same in
      let good = synthesis-fits n (low_after f h w n P) coefficients low (low_fits n P fit level) rest in
      rw (good, level-fits n P coefficients same (synthesis-back n (low_after f h w n P) coefficients low) fit level)
