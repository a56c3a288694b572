-- Laws of Booleans: conjunctions, tests that agree, and a number that is 0 where a test fails.
-- Assumes nothing.
use mathlib.Core.Path.{◌≡◌, refl, sym}
use mathlib.Core.Bool.{Bool, true, false, cond, ◌&&◌}
use Prim.Native.Nat.{ℕ, ◌≤◌, ◌<◌}
use native.Mathlib.Omega.{arith}

-- both sides of a conjunction that holds, and a conjunction with a side that fails
pub and_left : (a b : Bool) → a && b ≡ true → a ≡ true
and_left true b e = refl
and_left false b e = e

pub and_right : (a b : Bool) → a && b ≡ true → b ≡ true
and_right true b e = e
and_right false b e = cc

pub and-true : (a b : Bool) → a ≡ true → b ≡ true → a && b ≡ true
and-true a b ea eb = rw (ea, eb)

pub and-false : (a b : Bool) → b ≡ false → a && b ≡ false
and-false true b e = e
and-false false b e = refl

-- two tests of which each passes where the other does
pub same_test : (a b : Bool) → (a ≡ true → b ≡ true) → (b ≡ true → a ≡ true) → a ≡ b
same_test true true f g = refl
same_test true false f g = sym (f refl)
same_test false true f g = g refl
same_test false false f g = refl

-- a number that is 0 where a test fails
pub cond-none : (t : Bool) (n : ℕ) → (t ≡ true → 1 ≤ n) → cond t n 0 ≡ 0 → t ≡ false
cond-none true n least e = absurd (omega (arith, least refl))
cond-none false n least e = refl

pub cond-some : (t : Bool) (n k : ℕ) → k < cond t n 0 → t ≡ true
cond-some true n k h = refl
cond-some false n k h = absurd (omega arith)

pub cond-most : (t : Bool) (n most : ℕ) → (t ≡ true → n ≤ most) → cond t n 0 ≤ most
cond-most true n most h = h refl
cond-most false n most h = omega arith
