-- The laws of `all_below`: one more test, from the test of all to each and back, and a part of the tests.
-- Assumes nothing.
use mathlib.Core.Path.{◌≡◌, refl, ap}
use mathlib.Core.Bool.{Bool, true, false, ◌&&◌}
use Prim.Native.Nat.{ℕ, zero, suc, ◌+◌, ◌-◌, ◌≤◌, ◌<◌}
use native.Mathlib.Numerals.{add-one}
use native.Mathlib.Decide.{dec_lt}
use native.Mathlib.Omega.{arith}
use Rattle.base.specs.Every.{all_below}
use Rattle.base.proofs.Booleans.{and_left, and_right, and-true, and-false}

module _ (test : ℕ → Bool) where
  pub all_none : all_below 0 test ≡ true
  unfolding all_below
  all_none = refl

  pub all_more : (n : ℕ) → all_below (n + 1) test ≡ all_below n test && test n
  unfolding all_below
  all_more n = ap (λ (k : ℕ). all_below k test) (add-one n)

  pub all-at : (n k : ℕ) → all_below n test ≡ true → k < n → test k ≡ true
  unfolding all_below
  all-at zero k e h = absurd (omega arith)
  all-at (suc n) k e h =
      elim (dec_lt k n) [
        | yes below ↦ all-at n k (and_left (all_below n test) (test n) e) below
        | no not_below ↦
            let last : n ≡ k = omega arith in
            rw (← last) (and_right (all_below n test) (test n) e)
      ]

  pub all_from : (n : ℕ) → ((k : ℕ) → k < n → test k ≡ true) → all_below n test ≡ true
  unfolding all_below
  all_from zero each = refl
  all_from (suc n) each = and-true (all_below n test) (test n) (all_from n (λ k h. each k (omega arith))) (each n (omega arith))

  pub all-not : (n k : ℕ) → k < n → test k ≡ false → all_below n test ≡ false
  unfolding all_below
  all-not zero k h e = absurd (omega arith)
  all-not (suc n) k h e =
      elim (dec_lt k n) [
        | yes below ↦ rw (all-not n k below e)
        | no not_below ↦
            let last : n ≡ k = omega arith in
            and-false (all_below n test) (test n) (rw last e)
      ]

-- tests that agree below the bound
pub all_same : (test₁ test₂ : ℕ → Bool) (n : ℕ) → ((k : ℕ) → k < n → test₁ k ≡ test₂ k) → all_below n test₁ ≡ all_below n test₂
unfolding all_below
all_same test₁ test₂ zero same = refl
all_same test₁ test₂ (suc n) same = rw (all_same test₁ test₂ n (λ k h. same k (omega arith)), same n (omega arith))

-- the tests of a part, from a number on; and those before it with them
pub all-part : (test : ℕ → Bool) (n a m : ℕ) → all_below n test ≡ true → a + m ≤ n → all_below m (λ k. test (a + k)) ≡ true
all-part test n a m all inside = all_from (λ k. test (a + k)) m (λ k h. all-at test n (a + k) all (omega arith))

pub all_append : (test : ℕ → Bool) (a m : ℕ) → all_below a test ≡ true → all_below m (λ k. test (a + k)) ≡ true → all_below (a + m) test ≡ true
all_append test a m first rest =
    all_from test (a + m)
    (λ k h.
    elim (dec_lt k a) [
      | yes before ↦ all-at test a k first before
      | no later ↦
          let on : a + (k - a) ≡ k = omega arith in
          rw on at (all-at (λ j. test (a + j)) m (k - a) rest (omega arith))
    ])
