-- The code's own form: what a plane holds after a run of stores. No definition of the format rests on it.
use Rattle.std.specs.Prelude.{ℕ, zero, suc, ◌+◌, List, set}

-- The list with f 0, f 1, .. f (n − 1) stored from index d on.
unfoldable pub fill {ℓ} : {A : Type ℓ} → List A → ℕ → ℕ → (ℕ → A) → List A
fill l d zero f = l
fill l d (suc n) f = set (fill l d n f) (d + n) (f n)
