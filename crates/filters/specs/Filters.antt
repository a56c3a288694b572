-- Document 01, "Lifting": the table of seven filters.
use Rattle.std.specs.Prelude.{ℕ, List, [], ◌∷◌, Bool, true, false, ℤ, pos, negsuc, get_or}
use Rattle.filters.specs.Lifting.{Step, StepType, type1, type2, type3, type4}

-- A filter: its steps in order, and whether its shift is 1.
pub record Filter : Type 0 where
  pub steps : List Step
  pub shift : Bool

-- "type; D; taps; S"
abbrev entry : StepType → ℤ → List ℤ → ℕ → Step
entry t d taps s = record { type = t; first = d; taps = taps; scale = s }

-- Index 0, Deslauriers-Dubuc (9,7): "2;0;1,1;2, then 3;−1;−1,9,9,−1;4", shift 1
unfoldable pub deslauriers_dubuc97 : Filter
deslauriers_dubuc97 =
    record {
      steps =
          entry type2 (pos 0) (pos 1 ∷ pos 1 ∷ []) 2
          ∷ entry type3 (negsuc 0) (negsuc 0 ∷ pos 9 ∷ pos 9 ∷ negsuc 0 ∷ []) 4
          ∷ [];
      shift = true;
    }

-- Index 1, LeGall (5,3): "2;0;1,1;2, then 3;0;1,1;1", shift 1
unfoldable pub le_gall53 : Filter
le_gall53 =
    record {
      steps = entry type2 (pos 0) (pos 1 ∷ pos 1 ∷ []) 2 ∷ entry type3 (pos 0) (pos 1 ∷ pos 1 ∷ []) 1 ∷ [];
      shift = true;
    }

-- Index 2, Deslauriers-Dubuc (13,7): "2;−1;−1,9,9,−1;5, then 3;−1;−1,9,9,−1;4", shift 1
unfoldable pub deslauriers_dubuc137 : Filter
deslauriers_dubuc137 =
    record {
      steps =
          entry type2 (negsuc 0) (negsuc 0 ∷ pos 9 ∷ pos 9 ∷ negsuc 0 ∷ []) 5
          ∷ entry type3 (negsuc 0) (negsuc 0 ∷ pos 9 ∷ pos 9 ∷ negsuc 0 ∷ []) 4
          ∷ [];
      shift = true;
    }

-- Haar, the steps of indices 3 and 4: "2;1;1;1, then 3;0;1;0"
unfoldable pub haar_steps : List Step
haar_steps = entry type2 (pos 1) (pos 1 ∷ []) 1 ∷ entry type3 (pos 0) (pos 1 ∷ []) 0 ∷ []

-- Index 3, Haar without a shift: shift 0
unfoldable pub haar : Filter
haar = record { steps = haar_steps; shift = false }

-- Index 4, Haar with a shift: "as 3", shift 1
unfoldable pub haar_with_shift : Filter
haar_with_shift = record { steps = haar_steps; shift = true }

-- Index 5, Fidelity: "3;−3;−2,10,−25,81,81,−25,10,−2;8, then 2;−3;−8,21,−46,161,161,−46,21,−8;8", shift 0
unfoldable pub fidelity : Filter
fidelity =
    record {
      steps =
          entry type3 (negsuc 2) (negsuc 1 ∷ pos 10 ∷ negsuc 24 ∷ pos 81 ∷ pos 81 ∷ negsuc 24 ∷ pos 10 ∷ negsuc 1 ∷ []) 8
          ∷ entry type2 (negsuc 2) (negsuc 7 ∷ pos 21 ∷ negsuc 45 ∷ pos 161 ∷ pos 161 ∷ negsuc 45 ∷ pos 21 ∷ negsuc 7 ∷ []) 8
          ∷ [];
      shift = false;
    }

-- Index 6, Daubechies (9,7): "2;0;1817,1817;12, then 4;0;3616,3616;12, then 1;0;217,217;12, then 3;0;6497,6497;12", shift 1
unfoldable pub daubechies97 : Filter
daubechies97 =
    record {
      steps =
          entry type2 (pos 0) (pos 1817 ∷ pos 1817 ∷ []) 12
          ∷ entry type4 (pos 0) (pos 3616 ∷ pos 3616 ∷ []) 12
          ∷ entry type1 (pos 0) (pos 217 ∷ pos 217 ∷ []) 12
          ∷ entry type3 (pos 0) (pos 6497 ∷ pos 6497 ∷ []) 12
          ∷ [];
      shift = true;
    }

-- "The table holds seven filters"
abbrev pub filter_table : List Filter
filter_table = deslauriers_dubuc97 ∷ le_gall53 ∷ deslauriers_dubuc137 ∷ haar ∷ haar_with_shift ∷ fidelity ∷ daubechies97 ∷ []

-- The filter of a wavelet index. An index above 6 is refused before it is used.
unfoldable pub filter_of : ℕ → Filter
filter_of wavelet = get_or filter_table wavelet deslauriers_dubuc97
