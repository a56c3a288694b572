-- Even and odd numbers: what a test tells of them and their halves, and rules that hold for both.
-- Assumes nothing.
use mathlib.Core.Path.{◌≡◌, refl}
use mathlib.Core.Bool.{Bool, true, false, not, ◌&&◌, and_assoc}
use Prim.Native.Nat.{ℕ, zero, suc, ◌+◌, ◌*◌, ◌/◌, ◌%◌, ◌<◌}
use native.Mathlib.Nat.{mul-suc}
use native.Mathlib.Numerals.{add-one, add-two}
use native.Mathlib.Decide.{dec_lt}
use native.Mathlib.Omega.{arith}
use lib.Dec.{eqb}
use borrow.Author.Tests.{eq-eqb, ne_eqb}
use Rattle.base.specs.Every.{all_below}

-- an even number, and an odd one
module _ (k : ℕ) where
  pub even-test : eqb (2 * k % 2) 0 ≡ true
  even-test = eq-eqb (2 * k % 2) 0 (omega arith)

  pub odd-test : eqb ((2 * k + 1) % 2) 0 ≡ false
  odd-test = ne_eqb ((2 * k + 1) % 2) 0 (λ e. omega arith)

  pub even-half : 2 * k / 2 ≡ k
  even-half = omega arith

  pub odd-half : (2 * k + 1) / 2 ≡ k
  odd-half = omega arith

-- what holds of the even and of the odd numbers below a bound holds of all
pub by-parity : (P : ℕ → Type 0) (n : ℕ) → ((k : ℕ) → k < n → P (2 * k)) → ((k : ℕ) → k < n → P (2 * k + 1)) → (x : ℕ) → x < 2 * n → P x
by-parity P n even odd x inside =
    elim (dec_lt (x % 2) 1) [
      | yes below ↦
          let order : x ≡ 2 * (x / 2) = omega arith in
          rw order (even (x / 2) (omega arith))
      | no not_below ↦
          let order : x ≡ 2 * (x / 2) + 1 = omega arith in
          rw order (odd (x / 2) (omega arith))
    ]

-- a rule for one of two parities and for the other holds for both
pub each-parity : (changed : Bool) (R : Bool → Type 0) → R changed → R (not changed) → (even : Bool) → R even
each-parity true R this other true = this
each-parity true R this other false = other
each-parity false R this other true = other
each-parity false R this other false = this

-- the order of two pairs of tests
and-middle : (a b c d : Bool) → (a && b) && (c && d) ≡ (a && c) && (b && d)
and-middle true true c d = refl
and-middle true false true d = refl
and-middle true false false d = refl
and-middle false b c d = refl

-- two tests of each number at once
pub all-and : (f g : ℕ → Bool) (n : ℕ) → all_below n (λ k. f k && g k) ≡ all_below n f && all_below n g
unfolding all_below
all-and f g zero = refl
all-and f g (suc n) = rw (all-and f g n) (and-middle (all_below n f) (all_below n g) (f n) (g n))

-- a test of numbers two by two
pub all-pairs : (f : ℕ → Bool) (n : ℕ) → all_below (2 * n) f ≡ all_below n (λ k. f (2 * k) && f (2 * k + 1))
unfolding all_below
all-pairs f zero = refl
all-pairs f (suc n) =
    rw (mul-suc 2 n, add-two (2 * n), add-one (2 * n), ← all-pairs f n)
    (and_assoc (all_below (2 * n) f) (f (2 * n)) (f (suc (2 * n))))
