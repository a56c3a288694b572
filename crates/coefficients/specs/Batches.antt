-- The code's own form: values that are read at once by the bits of a window. No definition of the format rests on it.
use Rattle.std.specs.Prelude.{ℕ, ◌+◌, ◌≤◌, ◌≡◌, List, ℤ}
use Rattle.lookups.specs.Windows.{Ahead}
use Rattle.coefficients.specs.Reading.{goes_on}
use Rattle.coefficients.specs.Scaling.{Small}
use Rattle.coefficients.specs.Values.{index_of, entries}
use Rattle.coefficients.specs.declared.values.Batch.{Batch}
use Rattle.coefficients.specs.declared.values.Layout.{Layout}

-- Values from value i on were read into a plane by the bits at the top of w, whatever data have them ahead, and whatever sizes become.
pub record ReadsAhead (w : ℕ) (small : List ℤ) (index : ℕ → ℕ) (i : ℕ) (plane : List ℤ) (r : Batch) (last : List ℤ) : Type 0 where
  pub few : r.bits ≤ 56
  pub values : (bytes : List ℕ) (end origin : ℕ) (scale : ℕ → ℕ) (at : ℕ) → Small scale small → Ahead bytes end w at 56 →
      entries bytes end origin scale index i r.count (goes_on at plane) ≡ goes_on (at + r.bits) last

-- So were values of a layout, none of them past its end.
abbrev pub ReadsWithin : ℕ → List ℤ → Layout → ℕ → List ℤ → Batch → List ℤ → Type 0
ReadsWithin w small layout from plane r last = (from + r.count ≤ layout.count) × ReadsAhead w small (index_of layout) from plane r last
