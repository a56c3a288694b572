-- Document 01, "Whole case": the samples of coefficients 10 4 / −2 1, and their analysis.
-- Assumes nothing.
use mathlib.Core.Path.{◌≡◌, refl}
use mathlib.Core.List.{List, [], ◌∷◌}
use Prim.Native.Nat.{◌+◌, ◌*◌}
use lib.IntN.{ℤ, pos, negsuc}
use lib.ListN.{get_or}
use Rattle.component.specs.Sizes.{size_at}
use Rattle.filters.specs.Lifting.{changes_even, adds, clamp, read_position, tap_sum, rounding, update, changes, lift, exchange_type, exchange}
use Rattle.filters.specs.Passes.{Picture, run, run_all}
use Rattle.filters.specs.Filters.{haar, haar_steps, filter_of, deslauriers_dubuc97, le_gall53, deslauriers_dubuc137, haar_with_shift, fidelity, daubechies97}
use Rattle.transform.specs.Synthesis.{synthesis_passes, interleave, synthesis}
use Rattle.transform.specs.Analysis.{analysis, undo_steps, analysis_passes, low_band, separate, level_analysis}

plane : List ℤ → Picture
plane l r c = get_or l (r * 2 + c) (pos 0)

corner : Picture → List ℤ
corner P = P 0 0 ∷ P 0 1 ∷ P 1 0 ∷ P 1 1 ∷ []

whole :
    (corner (synthesis (filter_of 3) 1 1 (plane (pos 10 ∷ pos 4 ∷ negsuc 1 ∷ pos 1 ∷ [])) 1) ≡ pos 9 ∷ pos 12 ∷ pos 7 ∷ pos 11 ∷ [])
    × (corner (analysis (filter_of 3) 1 1 1 (plane (pos 9 ∷ pos 12 ∷ pos 7 ∷ pos 11 ∷ []))) ≡ pos 10 ∷ pos 4 ∷ negsuc 1 ∷ pos 1 ∷ [])
unfolding corner plane changes_even adds clamp read_position tap_sum rounding update changes lift deslauriers_dubuc97 le_gall53 deslauriers_dubuc137 haar_with_shift fidelity daubechies97 haar haar_steps filter_of run run_all synthesis_passes interleave size_at synthesis analysis undo_steps analysis_passes low_band separate level_analysis exchange exchange_type
whole = (refl, refl)
