-- Laws of text that goes on piece by piece.
-- Assumes nothing.
use mathlib.Core.Path.{◌≡◌, refl, sym}
use mathlib.Core.List.{List, [], ◌++◌, append-nil}
use Prim.Native.Nat.{ℕ}
use native.Mathlib.Omega.{arith}
use lib.ListN.{take, length-append}
use Rattle.text.specs.Put.{Put}
use Rattle.text.proofs.TextLaws.{put_both as text_both}

-- nothing put
pub put-none : (at : ℕ) (t : List ℕ) → Put at t [] at t
put-none at t = (omega arith, sym (append-nil (take at t)))

-- a piece by another name
pub put_same : (at : ℕ) (t p : List ℕ) (r : ℕ) (t₁ q : List ℕ) → p ≡ q → Put at t p r t₁ → Put at t q r t₁
put_same at t p r t₁ q e h = rw (← e) h

-- a piece, and one after it
pub put_both :
    (at : ℕ) (t₀ p : List ℕ) (r : ℕ) (t₁ q : List ℕ) (s : ℕ) (t₂ whole : List ℕ)
    → p ++ q ≡ whole
    → Put at t₀ p r t₁
    → Put r t₁ q s t₂
    → Put at t₀ whole s t₂
put_both at t₀ p r t₁ q s t₂ whole same (e, m) (f, n) =
    rw (← same) (rw (length-append p q) (omega arith), text_both _ _ _ _ _ _ refl m n)
