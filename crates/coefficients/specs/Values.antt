-- The code's own forms: values that go one after the other to entries of a plane. No definition of the format rests on them.
use Rattle.std.specs.Prelude.{ℕ, ◌+◌, ◌*◌, ◌/◌, ◌≤◌, ◌<◌, ◌≡◌, Result, List, ℤ, pos, length, get_or, set}
use Rattle.base.specs.Walk.{walk}
use Rattle.base.specs.declared.status.Fault.{Fault}
use Rattle.coefficients.specs.Reading.{Run, progress_of, value}
use Rattle.coefficients.specs.declared.values.Layout.{Layout}

-- What a call left: how far it came, and the plane.
abbrev pub after : Result ℕ Fault → List ℤ → Run
after result plane = record { progress = progress_of result; plane = plane }

-- The entry of the plane that value i of a layout goes to.
unfoldable pub index_of : Layout → ℕ → ℕ
index_of l i = l.start + i + i * l.reciprocal / 16777216 * l.gap

-- Value i, which goes to entry `index i` of a plane; and n values from value i on.
module _ (bytes : List ℕ) (end origin : ℕ) (scale index : ℕ → ℕ) where
  unfoldable pub entry : ℕ → Run → Run
  entry i = value bytes end origin scale (λ v plane. set plane (index i) v)

  unfoldable pub entries : ℕ → ℕ → Run → Run
  entries i n r = walk entry i n r

-- The entries of values i to n − 1 hold zeros.
pub record Clear (index : ℕ → ℕ) (i n : ℕ) (plane : List ℤ) : Type 0 where
  pub each : (k : ℕ) → i ≤ k → k < n → get_or plane (index k) (pos 0) ≡ pos 0

-- A layout has its entries in a plane, and those of values i and later hold zeros.
pub record Ready (l : Layout) (i : ℕ) (plane : List ℤ) : Type 0 where
  pub few : l.count ≤ 16777216
  pub low : l.reciprocal ≤ 16777217
  pub counted : i ≤ l.count
  pub inside : (k : ℕ) → k < l.count → index_of l k < length plane
  pub clear : Clear (index_of l) i l.count plane
