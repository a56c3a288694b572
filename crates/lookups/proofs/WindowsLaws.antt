-- Laws of the next bits as one number: its parts, the bytes that it is made of, and the bits at the top of a window.
-- Assumes nothing.
use mathlib.Core.Path.{◌≡◌, refl, sym, ap, ◌∙◌}
use mathlib.Core.Bool.{Bool, true, false}
use mathlib.Core.List.{List, [], ◌∷◌}
use Prim.Native.Nat.{ℕ, zero, suc, ◌+◌, ◌-◌, ◌*◌, ◌/◌, ◌%◌, ◌^◌, ◌≤◌, ◌<◌, min}
use native.Mathlib.Nat.{add-zero, zero-add, add-suc, div-one, mul_assoc, pow-suc, mul-div-mul_right}
use native.Mathlib.Numerals.{add-one}
use native.Mathlib.Decide.{dec_lt}
use native.Mathlib.Omega.{arith}
use lib.Dec.{leb, ltb}
use lib.ListN.{length, get_or}
use lib.Pow.{pow_pos, pow-add, high, low, field, shr-shr}
use borrow.Author.Tests.{ltb-true, leb-true, lt-ltb, le-leb, lt-leb}
use Rattle.std.specs.Int.{w64, from_be_bytes}
use Rattle.base.proofs.Booleans.{and_left, and_right}
use Rattle.exp_golomb.specs.Bits.{bit_at, bits_from, present}
use Rattle.exp_golomb.specs.Begins.{Begins}
use Rattle.lookups.specs.Windows.{WindowThere, is_window, window_of, Ahead}
use Rattle.exp_golomb.proofs.BitsLaws.{bit-small}

-- a shift up and a shift down are one shift down
pub shifted : (w z j k : ℕ) → z ≤ k → w * 2 ^ z % 2 ^ (j + k) / 2 ^ k ≡ w / 2 ^ (k - z) % 2 ^ j
shifted w z j k fits_in =
    let whole : k - z + z ≡ k = omega arith in
    let parts : 2 ^ (k - z) * 2 ^ z ≡ 2 ^ k = sym (pow-add 2 (k - z) z) ∙ ap (λ (n : ℕ). 2 ^ n) whole in
    field (w * 2 ^ z) j k
    ∙ ap (λ (n : ℕ). n % 2 ^ j) (ap (λ (n : ℕ). w * 2 ^ z / n) (sym parts) ∙ mul-div-mul_right w (2 ^ (k - z)) (pow_pos z))

-- a part of a number and the digit below it
halves : (b m : ℕ) → 2 * (b / 2 ^ suc m) + b / 2 ^ m % 2 ≡ b / 2 ^ m
halves b m =
    let half : b / 2 ^ m / 2 ≡ b / 2 ^ suc m = shr-shr b m 1 ∙ ap (λ (n : ℕ). b / 2 ^ n) (add-one m) in
    rw (← half) (omega arith)

module _ (bytes : List ℕ) where
  abbrev bits : ℕ → ℕ → ℕ
  bits = bits_from bytes

  pub bits_small : (i n : ℕ) → bits i n < 2 ^ n
  unfolding bits_from
  bits_small i zero = omega arith
  bits_small i (suc n) =
      let rest = bits_small i n in
      let bit = bit-small bytes (i + n) in
      rw (pow-suc 2 n) (omega arith)

  -- the first m bits, and then n more
  pub bits-split : (i m n : ℕ) → bits i (m + n) ≡ bits i m * 2 ^ n + bits (i + m) n
  unfolding bits_from
  bits-split i m zero = rw (add-zero m) (omega arith)
  bits-split i m (suc n) =
      let rest = bits-split i m n in
      let doubled : bits i m * 2 ^ suc n ≡ bits i m * 2 ^ n * 2 = ap (λ (p : ℕ). bits i m * p) (pow-suc 2 n) ∙ sym (mul_assoc (bits i m) (2 ^ n) 2) in
      let place : i + (m + n) ≡ i + m + n = omega arith in
      rw (add-suc m n, place) (omega arith)

  -- k bits from within others
  pub bits-within : (i a k b : ℕ) → bits i (a + k + b) / 2 ^ b % 2 ^ k ≡ bits (i + a) k
  bits-within i a k b =
      ap (λ (n : ℕ). n / 2 ^ b % 2 ^ k) (bits-split i (a + k) b)
      ∙ ap (λ (n : ℕ). n % 2 ^ k) (high (bits i (a + k)) b (bits_small (i + (a + k)) b))
      ∙ ap (λ (n : ℕ). n % 2 ^ k) (bits-split i a k)
      ∙ low (bits i a) k (bits_small (i + a) k)

  pub one_bit : (i : ℕ) → bits i 1 ≡ bit_at bytes i
  unfolding bits_from
  one_bit i = zero-add (bit_at bytes (i + 0)) ∙ ap (bit_at bytes) (add-zero i)

  -- a byte is its eight bits
  bit_in : (k j : ℕ) → j < 8 → bit_at bytes (8 * k + j) ≡ get_or bytes k 0 / 2 ^ (7 - j) % 2
  unfolding bit_at
  bit_in k j small =
      let byte : (8 * k + j) / 8 ≡ k = omega arith in
      let place : 7 - (8 * k + j) % 8 ≡ 7 - j = omega arith in
      rw (byte, place)

  byte-part : (k n m : ℕ) → get_or bytes k 0 < 256 → n + m ≡ 8 → bits (8 * k) n ≡ get_or bytes k 0 / 2 ^ m
  unfolding bits_from
  byte-part k zero m small whole =
      let all : m ≡ 8 = omega arith in
      rw all (omega arith)
  byte-part k (suc n) m small whole =
      let place : 7 - n ≡ m = omega arith in
      let bit : bit_at bytes (8 * k + n) ≡ get_or bytes k 0 / 2 ^ m % 2 = rw place at (bit_in k n (omega arith)) in
      rw (byte-part k n (suc m) small (omega arith), bit) (halves (get_or bytes k 0) m)

  pub byte-bits : (k : ℕ) → get_or bytes k 0 < 256 → bits (8 * k) 8 ≡ get_or bytes k 0
  byte-bits k small = byte-part k 8 0 small refl ∙ div-one (get_or bytes k 0)

  -- eight bytes are their 64 bits
  abbrev eight_from : ℕ → List ℕ
  eight_from k =
      get_or bytes k 0 ∷ get_or bytes (k + 1) 0 ∷ get_or bytes (k + 2) 0 ∷ get_or bytes (k + 3) 0 ∷ get_or bytes (k + 4) 0 ∷ get_or bytes (k + 5) 0
      ∷ get_or bytes (k + 6) 0 ∷ get_or bytes (k + 7) 0 ∷ []

  -- one byte more
  byte-more : (k n : ℕ) → ((i : ℕ) → get_or bytes i 0 < 256) → bits (8 * k) (8 * n + 8) ≡ bits (8 * k) (8 * n) * 256 + get_or bytes (k + n) 0
  byte-more k n small =
      let place : 8 * k + 8 * n ≡ 8 * (k + n) = omega arith in
      rw (bits-split (8 * k) (8 * n) 8, place, byte-bits (k + n) (small (k + n))) refl

  eight-bytes : (k : ℕ) → ((i : ℕ) → get_or bytes i 0 < 256) → from_be_bytes w64 (eight_from k) ≡ bits (8 * k) 64
  eight-bytes k small =
      let f₀ : bits (8 * k) 8 ≡ get_or bytes k 0 = byte-bits k (small k) in
      let f₁ : bits (8 * k) 16 ≡ bits (8 * k) 8 * 256 + get_or bytes (k + 1) 0 = byte-more k 1 small in
      let f₂ : bits (8 * k) 24 ≡ bits (8 * k) 16 * 256 + get_or bytes (k + 2) 0 = byte-more k 2 small in
      let f₃ : bits (8 * k) 32 ≡ bits (8 * k) 24 * 256 + get_or bytes (k + 3) 0 = byte-more k 3 small in
      let f₄ : bits (8 * k) 40 ≡ bits (8 * k) 32 * 256 + get_or bytes (k + 4) 0 = byte-more k 4 small in
      let f₅ : bits (8 * k) 48 ≡ bits (8 * k) 40 * 256 + get_or bytes (k + 5) 0 = byte-more k 5 small in
      let f₆ : bits (8 * k) 56 ≡ bits (8 * k) 48 * 256 + get_or bytes (k + 6) 0 = byte-more k 6 small in
      let f₇ : bits (8 * k) 64 ≡ bits (8 * k) 56 * 256 + get_or bytes (k + 7) 0 = byte-more k 7 small in
      omega arith

  -- and eight their 64, so that eight bytes, shifted up to a bit of the first of them, are a window
  pub window-whole : (at : ℕ) → ((k : ℕ) → get_or bytes k 0 < 256) → from_be_bytes w64 (eight_from (at / 8)) * 2 ^ (at % 8) % 2 ^ 64 ≡ window_of bytes at
  unfolding window_of
  window-whole at small = rw (eight-bytes (at / 8) small) refl

  -- the top 56 of a window are the next 56 bits
  pub window-top : (at : ℕ) → window_of bytes at / 256 ≡ bits at 56
  unfolding window_of
  window-top at =
      let whole : at % 8 + 56 + (8 - at % 8) ≡ 64 = omega arith in
      let place : 8 * (at / 8) + at % 8 ≡ at = omega arith in
      shifted (bits (8 * (at / 8)) 64) (at % 8) 56 8 (omega arith)
      ∙ ap (λ (n : ℕ). n / 2 ^ (8 - at % 8) % 2 ^ 56) (ap (bits (8 * (at / 8))) (sym whole))
      ∙ bits-within (8 * (at / 8)) (at % 8) 56 (8 - at % 8)
      ∙ ap (λ (i : ℕ). bits i 56) place

  -- bits that make the largest number are ones
  all_ones : (i n : ℕ) → 2 ^ n ≤ bits i n + 1 → (j : ℕ) → j < n → bit_at bytes (i + j) ≡ 1
  unfolding bits_from
  all_ones i zero large j below = absurd (omega arith)
  all_ones i (suc n) large j below =
      let up : 2 ^ n * 2 ≤ 2 * bits i n + bit_at bytes (i + n) + 1 = rw (pow-suc 2 n) at large in
      let rest = bits_small i n in
      let bit = bit-small bytes (i + n) in
      elim (dec_lt j n) [
        | yes before ↦ all_ones i n (omega arith) j before
        | no not_before ↦
            let last : j ≡ n = omega arith in
            rw last (omega arith)
      ]

-- the bits at the top of a number of 64
module _ (bytes : List ℕ) (end w i n : ℕ) (ahead : Ahead bytes end w i n) where
  -- they are there
  pub ahead-present : (j : ℕ) → j < n → present bytes end (i + j) ≡ true
  unfolding present
  ahead-present j below = lt-ltb (i + j) (min end (8 * length bytes)) (omega (arith, ahead.inside))

  -- the first m of them
  pub ahead-first : (m : ℕ) → m ≤ n → w / 2 ^ (64 - m) ≡ bits_from bytes i m
  ahead-first m fewer =
      let few = ahead.few in
      let whole : m + (n - m) ≡ n = omega arith in
      let down : 64 - n + (n - m) ≡ 64 - m = omega arith in
      ap (λ (k : ℕ). w / 2 ^ k) (sym down)
      ∙ sym (shr-shr w (64 - n) (n - m))
      ∙ ap (λ (k : ℕ). k / 2 ^ (n - m)) (ahead.top ∙ ap (bits_from bytes i) (sym whole) ∙ bits-split bytes i m (n - m))
      ∙ high (bits_from bytes i m) (n - m) (bits_small bytes (i + m) (n - m))

  -- m ones
  pub ahead-ones : (m : ℕ) → m ≤ n → w / 2 ^ (64 - m) + 1 ≡ 2 ^ m → (j : ℕ) → j < m → bit_at bytes (i + j) ≡ 1
  ahead-ones m fewer ones =
      let first = ahead-first m fewer in
      all_ones bytes i m (omega arith)

  -- those after the first b, once these are shifted out
  pub ahead-shift : (b : ℕ) → b ≤ n → Ahead bytes end (w * 2 ^ b % 2 ^ 64) (i + b) (n - b)
  ahead-shift b fewer =
      let few = ahead.few in
      let inside = ahead.inside in
      let whole : b + (n - b) ≡ n = omega arith in
      let parts : n - b + (64 - (n - b)) ≡ 64 = omega arith in
      let down : 64 - (n - b) - b ≡ 64 - n = omega arith in
      record {
        few = omega arith;
        top =
            ap (λ (k : ℕ). w * 2 ^ b % 2 ^ k / 2 ^ (64 - (n - b))) (sym parts)
            ∙ shifted w b (n - b) (64 - (n - b)) (omega arith)
            ∙ ap (λ (k : ℕ). w / 2 ^ k % 2 ^ (n - b)) down
            ∙ ap (λ (k : ℕ). k % 2 ^ (n - b)) (ahead.top ∙ ap (bits_from bytes i) (sym whole) ∙ bits-split bytes i b (n - b))
            ∙ low (bits_from bytes i b) (n - b) (bits_small bytes (i + b) (n - b));
        inside = omega arith;
      }

-- the test of a window, by the first of its two tests
module _ (bytes : List ℕ) (end at : ℕ) where
  pub window-first : at + 56 ≤ end → ltb (at / 8 + 7) (length bytes) ≡ is_window bytes end at
  unfolding is_window
  window-first inside = rw (le-leb (at + 56) end inside) refl

  pub window-past : end < at + 56 → is_window bytes end at ≡ false
  unfolding is_window
  window-past past = rw (lt-leb (at + 56) end past) refl

-- a window that passes the test is there
pub is-window : (bytes : List ℕ) (end at : ℕ) → is_window bytes end at ≡ true → WindowThere bytes end at
unfolding is_window
is-window bytes end at e =
    record {
      before_end = leb-true (at + 56) end (and_left (leb (at + 56) end) (ltb (at / 8 + 7) (length bytes)) e);
      eight_bytes = ltb-true (at / 8 + 7) (length bytes) (and_right (leb (at + 56) end) (ltb (at / 8 + 7) (length bytes)) e);
    }

-- a window is 56 bits ahead
pub window-ahead : (bytes : List ℕ) (end at w : ℕ) → WindowThere bytes end at → w / 256 ≡ bits_from bytes at 56 → Ahead bytes end w at 56
window-ahead bytes end at w there top = record { few = omega arith; top = top; inside = omega (arith, there.before_end, there.eight_bytes) }

-- the bits ahead in data are ahead in data that begin with them
pub ahead-begins : (stated : Bool) (a : List ℕ) (end_a : ℕ) (b : List ℕ) (end_b w i n : ℕ) → Begins stated a end_a b end_b → 0 < n → Ahead a end_a w i n → Ahead b end_b w i n
unfolding bits_from
ahead-begins stated a end_a b end_b w i n begins some ahead =
    record {
      few = ahead.few;
      top = ahead.top ∙ bits-same n (omega arith);
      inside =
          let last : i + (n - 1) < min end_b (8 * length b) = begins.there (i + (n - 1)) (omega (arith, ahead.inside)) in
          omega arith;
    }
  where
    bits-same : (m : ℕ) → m ≤ n → bits_from a i m ≡ bits_from b i m
    bits-same zero fewer = refl
    bits-same (suc m) fewer =
        let sofar = bits-same m (omega arith) in
        let bit : bit_at b (i + m) ≡ bit_at a (i + m) = begins.same (i + m) (omega (arith, ahead.inside)) in
        rw (sofar, bit) refl
