-- What lists hold: the numbers of a function, or zeros.
use Rattle.std.specs.Prelude.{ℕ, zero, suc, List, [], ◌∷◌, ℤ, pos, length, replicate}

-- The list of f 0, f 1, .. f (n − 1).
unfoldable pub tabulate {ℓ} : {A : Type ℓ} → ℕ → (ℕ → A) → List A
tabulate zero f = []
tabulate (suc n) f = f 0 ∷ tabulate n (λ i. f (suc i))

-- As many zeros as the list has entries.
unfoldable pub zeros_like : List ℤ → List ℤ
zeros_like l = replicate (length l) (pos 0)
