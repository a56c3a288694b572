-- Laws of numbers and rows as text: how many digits a number has, and one number or one row more.
-- Assumes nothing.
use mathlib.Core.Path.{◌≡◌, refl, sym, ap, ◌∙◌}
use mathlib.Core.Bool.{Bool, true, false, cond}
use mathlib.Core.List.{List, [], ◌∷◌, ◌++◌, append-nil, append_assoc}
use Prim.Native.Nat.{ℕ, zero, suc, ◌-◌, ◌*◌, ◌/◌, ◌%◌, ◌^◌, ◌≤◌, ◌<◌, ◌+◌}
use native.Mathlib.Nat.{mul-suc, pow-succ', one-le-pow}
use native.Mathlib.Omega.{arith}
use lib.Dec.{ltb}
use lib.IntN.{ℤ, pos, nat_abs}
use lib.Signed.{mag}
use lib.ListN.{length, take, drop, get_or, length-append}
use lib.Seq.{take-suc, drop-drop}
use borrow.Author.Tests.{ltb-true, ltb-false, lt-ltb}
use Rattle.base.proofs.Integers.{size-mag}
use Rattle.io.specs.Digits.{last_digits, hex_digit_ascii, IsDigitCount}
use Rattle.text.specs.Text.{ascii, digits_within, decimal, signed_text, spaced, row_text, rows_text}

-- a text that goes on by a piece, and then by another
pub put_both : (t₀ p t₁ q t₂ whole : List ℕ) → p ++ q ≡ whole → t₁ ≡ t₀ ++ p → t₂ ≡ t₁ ++ q → t₂ ≡ t₀ ++ whole
put_both t₀ p t₁ q t₂ whole same first second =
    second ∙ ap (λ (l : List ℕ). l ++ q) first ∙ append_assoc t₀ p q ∙ ap (λ (l : List ℕ). t₀ ++ l) same

-- a number below 10 has one digit
pub fewest-small : (n r : ℕ) → IsDigitCount 10 1 n r → n < 10 → 1 ≡ r
fewest-small n zero f h = absurd (omega arith)
fewest-small n (suc zero) f h = refl
fewest-small n (suc (suc r)) f h =
    let less : suc (suc r) - 1 ≡ suc r = omega arith in
    let high : 10 ^ suc r ≤ n = rw less at (f.2 (omega arith)) in
    absurd (omega (arith, pow-succ' 10 r, one-le-pow r 10 (omega arith)))

-- any other has one more than its tenth part
pub fewest-large : (n r : ℕ) → IsDigitCount 10 1 n (suc r) → 10 ≤ n → IsDigitCount 10 1 (n / 10) r
fewest-large n zero f h = absurd (omega (arith, f.1))
fewest-large n (suc r) f h =
    let less : suc (suc r) - 1 ≡ suc r = omega arith in
    let less-again : suc r - 1 ≡ r = omega arith in
    let high : 10 ^ suc r ≤ n = rw less at (f.2 (omega arith)) in
    let low : n < 10 * 10 ^ suc r = omega (arith, f.1, pow-succ' 10 (suc r)) in
    let tenth : 10 ^ r ≤ n / 10 = omega (arith, pow-succ' 10 r) in
    (omega arith, omega arith, rw less-again (λ _. tenth))

-- the fewest digits that hold a number are those that it has
pub digits-fewest : (more n r : ℕ) → IsDigitCount 10 1 n r → r ≤ suc more → digits_within more n ≡ r
unfolding digits_within
digits-fewest zero n r f h = omega arith
digits-fewest (suc more) n zero f h = absurd (omega arith)
digits-fewest (suc more) n (suc r) f h = step (ltb n 10) refl (λ g. digits-fewest more (n / 10) r g (omega arith)) where
  step :
      (t : Bool)
      → ltb n 10 ≡ t
      → (IsDigitCount 10 1 (n / 10) r → digits_within more (n / 10) ≡ r)
      → cond t 1 (suc (digits_within more (n / 10))) ≡ suc r
  step true e rest = fewest-small n (suc r) f (ltb-true n 10 e)
  step false e rest = ap suc (rest (fewest-large n r f (ltb-false n 10 e)))

-- at most as many digits as the power of ten that a number is below
pub digits-most : (more n k : ℕ) → n < 10 ^ suc k → digits_within more n ≤ suc k
unfolding digits_within
digits-most zero n k h = omega arith
digits-most (suc more) n zero h = rw (lt-ltb n 10 h) (omega arith)
digits-most (suc more) n (suc k) h = step (ltb n 10) (digits-most more (n / 10) k (omega (arith, pow-succ' 10 (suc k)))) where
  step : (t : Bool) → digits_within more (n / 10) ≤ suc k → cond t 1 (suc (digits_within more (n / 10))) ≤ suc (suc k)
  step true rest = omega arith
  step false rest = omega arith

-- a number of 64 bits takes at most 20 digits
pub fewest-most : (n r : ℕ) → IsDigitCount 10 1 n r → n < 2 ^ 64 → r ≤ 20
fewest-most n r f h = rw (digits-fewest r n r f (omega arith)) at (digits-most r n 19 (omega arith))

-- as many digits as asked for
pub length_digits : (b k n : ℕ) → length (last_digits b k n) ≡ k
length_digits b zero n = refl
length_digits b (suc k) n = length-append (last_digits b k (n / b)) (hex_digit_ascii (n % b) ∷ []) ∙ omega (arith, length_digits b k (n / b))

-- the digits that were counted are the number's text
pub digits_decimal : (n k : ℕ) → IsDigitCount 10 1 n k → k ≤ 20 → last_digits 10 k n ≡ decimal n
unfolding decimal
digits_decimal n k f h = ap (λ (p : ℕ). last_digits 10 p n) (sym (digits-fewest 20 n k f (omega arith)))

-- a number below 10 to the tenth has at most ten digits
pub decimal-short : (n : ℕ) → n < 10 ^ 10 → length (decimal n) ≤ 10
unfolding decimal
decimal-short n h = rw (length_digits 10 (digits_within 20 n) n) (digits-most 20 n 9 h)

-- a number of signed 32 bits has at most ten digits
pub size-short : (z : ℤ) (n : ℕ) → mag z < 2 ^ 31 → n ≡ nat_abs z → length (decimal n) ≤ 10
size-short z n small e = decimal-short n (omega (arith, size-mag z))

-- the numbers of two lists, one after the other
pub spaced-both : (k l : List ℤ) → spaced (k ++ l) ≡ spaced k ++ spaced l
unfolding spaced
spaced-both [] l = refl
spaced-both (z ∷ k) l =
    ap (λ (s : List ℕ). ascii " " ++ signed_text z ++ s) (spaced-both k l) ∙ sym (append_assoc (ascii " " ++ signed_text z) (spaced k) (spaced l))

-- one more number
pub spaced-more :
    (l : List ℤ) (x : ℕ) (z : ℤ)
    → x < length l
    → z ≡ get_or l x (pos 0)
    → spaced (take x l) ++ (ascii " " ++ signed_text z) ≡ spaced (take (x + 1) l)
unfolding spaced
spaced-more l x z h e =
    let next : x + 1 ≡ suc x = omega arith in
    rw (next, take-suc l x (pos 0) h, spaced-both (take x l) (get_or l x (pos 0) ∷ []), e)
    (ap (λ (s : List ℕ). spaced (take x l) ++ s) (sym (append-nil (ascii " " ++ signed_text (get_or l x (pos 0))))))

-- a row of some numbers
pub row-some :
    (l : List ℤ) (z : ℤ) (rest : List ℤ)
    → 0 < length l
    → z ≡ get_or l 0 (pos 0)
    → rest ≡ drop 1 l
    → signed_text z ++ spaced rest ++ ascii "\n" ≡ row_text l
unfolding row_text
row-some [] z rest h e f = absurd (omega arith)
row-some (y ∷ l) z rest h e f = rw (e, f) refl

-- the rows but the last, and the last, which starts at entry `from`
rows_last :
    (width y : ℕ) (l : List ℤ) (from : ℕ) → from ≡ width * y → rows_text width (suc y) l ≡ rows_text width y l ++ row_text (take width (drop from l))
unfolding rows_text
rows_last width zero l from e = let start : from ≡ 0 = omega arith in rw start (append-nil (row_text (take width l)))
rows_last width (suc y) l from e =
    let next : from ≡ width + width * y = omega (arith, mul-suc width y) in
    let last = row_text (take width (drop (width + width * y) l)) in
    ap (λ (s : List ℕ). row_text (take width l) ++ s) (rows_last width y (drop width l) (width * y) refl)
    ∙ rw (drop-drop (width * y) width l, next) (sym (append_assoc (row_text (take width l)) (rows_text width y (drop width l)) last))

-- one more row, which starts at entry `from`
pub rows_more :
    (width y : ℕ) (l : List ℤ) (from : ℕ)
    → from ≡ width * y
    → rows_text width y l ++ row_text (take (from + width - from) (drop from l)) ≡ rows_text width (y + 1) l
rows_more width y l from e =
    let size : from + width - from ≡ width = omega arith in
    let next : y + 1 ≡ suc y = omega arith in
    rw (size, next) (sym (rows_last width y l from e))
