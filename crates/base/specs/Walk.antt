-- A job done step by step: what a loop computes, over any kind of state.
use Rattle.std.specs.Prelude.{ℕ, zero, suc}

-- The state after the n steps f i, f (i + 1), .. in this order.
unfoldable pub walk {ℓ} : {S : Type ℓ} → (ℕ → S → S) → ℕ → ℕ → S → S
walk f i zero s = s
walk f i (suc n) s = walk f (suc i) n (f i s)
