-- The code's own forms: the pairs of rows of a frame from one on to another, changed by a stage. No definition of the format rests on them.
use Rattle.std.specs.Prelude.{◌≡◌, Bool, true, false, List, ℕ, ◌*◌, ◌≤◌, ◌<◌, ℤ}
use Rattle.filters.specs.Planes.{picture_of}
use Rattle.filters.specs.Passes.{Picture}
use Rattle.filters.specs.Pictures.{target_row}
use Rattle.lifting.specs.declared.frame.Frame.{Frame}

-- An answer that tells whether something holds.
abbrev pub Tells : Bool → Type 0 → Type 0
Tells answer P = (answer ≡ true → P) × (answer ≡ false → P → ⊥)

-- A test passes at each pair from one on to another.
abbrev pub EachPair : ℕ → ℕ → (ℕ → Bool) → Type 0
EachPair from to test = (k : ℕ) → from ≤ k → k < to → test k ≡ true

-- A pair that is not among them.
abbrev pub Outside : ℕ → ℕ → ℕ → Type 0
Outside from to k = from ≤ k → k < to → ⊥

-- The rows of the pairs from one on to another are those of a picture, in a plane that has so many rows and columns of it; the rows of the others are as
-- they were.
pub record PairsPut (stride height width from to : ℕ) (P : Picture) (plane plane' : List ℤ) : Type 0 where
  pub new :
      (k : ℕ) (even : Bool) (x : ℕ) → from ≤ k → k < to → target_row even k < height → x < width
      → picture_of stride plane' (target_row even k) x ≡ P (target_row even k) x
  pub kept :
      (k : ℕ) (even : Bool) (x : ℕ) → Outside from to k → x < width
      → picture_of stride plane' (target_row even k) x ≡ picture_of stride plane (target_row even k) x

-- The same in a frame.
abbrev pub FramePut : Frame → ℕ → ℕ → Picture → List ℤ → List ℤ → Type 0
FramePut f from to P plane plane' = PairsPut f.stride (2 * f.band_rows) (2 * f.band_columns) from to P plane plane'
