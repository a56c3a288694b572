-- Laws of whole numbers: how large a sum, a difference or a product can be.
-- Assumes nothing.
use mathlib.Core.Path.{◌≡◌, refl}
use Prim.Native.Nat.{ℕ, zero, suc, ◌+◌, ◌*◌, ◌≤◌, ◌<◌}
use native.Mathlib.Nat.{mul-le-mul}
use native.Mathlib.Decide.{dec_lt}
use native.Mathlib.Omega.{arith}
use borrow.Author.Tests.{lt-ltb, le-ltb}
use lib.IntN.{ℤ, pos, negsuc, neg_ℤ, nat_abs, ◌+ℤ◌, ◌-ℤ◌, ◌*ℤ◌, sub_ℕ, +ℤ_idl}
use lib.Signed.{mag}

-- `mag` and the size differ by 1 at most
pub mag-size : (z : ℤ) → mag z ≤ nat_abs z
mag-size (pos n) = omega arith
mag-size (negsuc n) = omega arith

pub size-mag : (z : ℤ) → nat_abs z ≤ mag z + 1
size-mag (pos n) = omega arith
size-mag (negsuc n) = omega arith

-- the opposite is as large
pub size-neg : (z : ℤ) → nat_abs (neg_ℤ z) ≡ nat_abs z
size-neg (pos zero) = refl
size-neg (pos (suc n)) = refl
size-neg (negsuc n) = refl

-- a difference of two natural numbers is no larger than their sum
size-subℕ : (a b : ℕ) → nat_abs (sub_ℕ a b) ≤ a + b
size-subℕ a b =
    elim (dec_lt a b) [
      | yes below ↦ rw (lt-ltb a b below) (omega arith)
      | no not_below ↦ rw (le-ltb a b (omega arith)) (omega arith)
    ]

-- a sum, a difference and a product
pub size-add : (a b : ℤ) → nat_abs (a +ℤ b) ≤ nat_abs a + nat_abs b
size-add (pos a) (pos b) = omega arith
size-add (pos a) (negsuc b) = size-subℕ a (suc b)
size-add (negsuc a) (pos b) = omega (arith, size-subℕ b (suc a))
size-add (negsuc a) (negsuc b) = omega arith

pub size-sub : (a b : ℤ) → nat_abs (a -ℤ b) ≤ nat_abs a + nat_abs b
size-sub a b = rw size-neg at (size-add a (neg_ℤ b))

pub size-mul : (a b : ℤ) → nat_abs (a *ℤ b) ≡ nat_abs a * nat_abs b
size-mul (pos a) (pos b) = refl
size-mul (pos a) (negsuc b) = size-neg (pos (a * suc b))
size-mul (negsuc a) (pos b) = size-neg (pos (suc a * b))
size-mul (negsuc a) (negsuc b) = refl

-- a product of two numbers whose sizes have bounds
pub size-mul-most : (a b : ℤ) (m n : ℕ) → nat_abs a ≤ m → nat_abs b ≤ n → nat_abs (a *ℤ b) ≤ m * n
size-mul-most a b m n ha hb = rw (size-mul a b) (mul-le-mul ha hb)

-- 0 − n, and its size
pub zero-less : (n : ℕ) → pos 0 -ℤ pos n ≡ neg_ℤ (pos n)
zero-less n = +ℤ_idl (neg_ℤ (pos n))

pub mag-minus : (n m : ℕ) → n < m → mag (neg_ℤ (pos n)) < m
mag-minus zero m h = h
mag-minus (suc n) m h = omega arith
