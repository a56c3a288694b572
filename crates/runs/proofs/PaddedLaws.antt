-- Laws of the next bits with ones for those past the end: where they are those of the data, and that there are data of just these bits, from
-- which a number is read as from the data themselves.
-- Assumes nothing.
use mathlib.Core.Path.{◌≡◌, refl, sym, ap, ◌∙◌}
use mathlib.Core.Bool.{Bool, true, false}
use mathlib.Core.List.{List}
use Prim.Native.Nat.{ℕ, zero, suc, ◌+◌, ◌-◌, ◌*◌, ◌/◌, ◌%◌, ◌^◌, ◌≤◌, ◌<◌, min}
use native.Mathlib.Nat.{add-zero, add-suc, div-one, mul-one, mul_assoc, pow-suc, mod-eq_of_lt}
use native.Mathlib.Numerals.{add-one}
use native.Mathlib.Omega.{arith}
use lib.ListN.{length, get_or}
use lib.Pow.{pow_pos, pow-add, shr-shr}
use borrow.Author.Tests.{lt-ltb, le-ltb, ltb-false}
use Rattle.base.specs.Lists.{tabulate}
use Rattle.base.proofs.ListsLaws.{length-tabulate, get_d_tabulate}
use Rattle.exp_golomb.specs.Bits.{Taken, bit_at, bits_from, present, take_bit}
use Rattle.exp_golomb.proofs.BitsLaws.{bit-small, present-below, present-past-end, take-present, take-past-stated}
use Rattle.exp_golomb.proofs.Moved.{Has}
use Rattle.lookups.specs.Windows.{window_of, Ahead}
use Rattle.lookups.proofs.WindowsLaws.{shifted, bits_small, bits-within, bits-split, byte-bits}
use Rattle.runs.specs.Padded.{bit_padded, bits_padded, Shows}

-- bits that are shifted up so that bit `at` is at the top
pub bits-top : (bytes : List ℕ) (start n at left : ℕ) → n ≤ 64 → start ≤ at → at + left ≤ start + n →
    bits_from bytes start n * 2 ^ (64 - n + (at - start)) % 2 ^ 64 / 2 ^ (64 - left) ≡ bits_from bytes at left
bits-top bytes start n at left few from inside =
    let parts : left + (64 - left) ≡ 64 = omega arith in
    let down : 64 - left - (64 - n + (at - start)) ≡ n - (at - start) - left = omega arith in
    let whole : at - start + left + (n - (at - start) - left) ≡ n = omega arith in
    let here : start + (at - start) ≡ at = omega arith in
    ap (λ (k : ℕ). bits_from bytes start n * 2 ^ (64 - n + (at - start)) % 2 ^ k / 2 ^ (64 - left)) (sym parts)
    ∙ shifted (bits_from bytes start n) (64 - n + (at - start)) left (64 - left) (omega arith)
    ∙ ap (λ (k : ℕ). bits_from bytes start n / 2 ^ k % 2 ^ left) down
    ∙ ap (λ (k : ℕ). bits_from bytes start k / 2 ^ (n - (at - start) - left) % 2 ^ left) (sym whole)
    ∙ bits-within bytes start (at - start) left (n - (at - start) - left)
    ∙ ap (λ (k : ℕ). bits_from bytes k left) here

module _ (bytes : List ℕ) where
  -- the bits of eight bytes, from the byte of the first bit on
  pub shows-window : (at : ℕ) → Shows bytes at (window_of bytes at)
  unfolding window_of
  shows-window at =
      record {
        top = λ n few inside.
            let place : 64 - 64 + (at - 8 * (at / 8)) ≡ at % 8 = omega arith in
            rw place at (bits-top bytes (8 * (at / 8)) 64 at n (omega arith) (omega arith) (omega arith));
      }

  -- those of eight bytes that start with it
  pub window-aligned : (k : ℕ) → window_of bytes (8 * k) ≡ bits_from bytes (8 * k) 64
  unfolding window_of
  window-aligned k =
      let byte : 8 * (8 * k / 8) ≡ 8 * k = omega arith in
      let none : 8 * k % 8 ≡ 0 = omega arith in
      rw (byte, none) (ap (λ (n : ℕ). n % 2 ^ 64) (mul-one (bits_from bytes (8 * k) 64)) ∙ mod-eq_of_lt (bits_small bytes (8 * k) 64))

  -- the bits of the last n bytes, where there are no more
  pub shows-last : (start n at shift w : ℕ) → n ≤ 64 → start ≤ at → start + n ≡ 8 * length bytes → w ≡ bits_from bytes start n → shift ≡ 64 - n + (at - start) →
      Shows bytes at (w * 2 ^ shift % 2 ^ 64)
  shows-last start n at shift w few from all is by =
      record { top = λ m fewer inside. rw (is, by) (bits-top bytes start n at m few from (omega arith)) }

  -- one byte more
  pub bits-more : (start n k byte : ℕ) → start + n ≡ 8 * k → byte ≡ get_or bytes k 0 → byte < 256 → bits_from bytes start n * 256 + byte ≡ bits_from bytes start (n + 8)
  bits-more start n k byte here is small =
      let eight : bits_from bytes (8 * k) 8 ≡ byte = byte-bits bytes k (omega arith) ∙ sym is in
      sym (bits-split bytes start n 8 ∙ ap (λ (i : ℕ). bits_from bytes start n * 256 + bits_from bytes i 8) here ∙ ap (λ (b : ℕ). bits_from bytes start n * 256 + b) eight)

module _ (bytes : List ℕ) (end : ℕ) where
  padded-there : (i : ℕ) → present bytes end i ≡ true → bit_padded bytes end i ≡ bit_at bytes i
  unfolding bit_padded
  padded-there i p = rw p

  padded-past : (i : ℕ) → present bytes end i ≡ false → bit_padded bytes end i ≡ 1
  unfolding bit_padded
  padded-past i p = rw p

  padded-small : (i : ℕ) → bit_padded bytes end i ≤ 1
  padded-small i = by (present bytes end i) refl
    where
      by : (there : Bool) → present bytes end i ≡ there → bit_padded bytes end i ≤ 1
      by true p = rw (padded-there i p) (bit-small bytes i)
      by false p = rw (padded-past i p) (omega arith)

  -- bits that are all there
  bits-there : (i n : ℕ) → i + n ≤ min end (8 * length bytes) → bits_padded bytes end i n ≡ bits_from bytes i n
  unfolding bits_padded bits_from present
  bits-there i zero inside = refl
  bits-there i (suc n) inside =
      let bit : bit_padded bytes end (i + n) ≡ bit_at bytes (i + n) = padded-there (i + n) (lt-ltb (i + n) (min end (8 * length bytes)) (omega arith)) in
      rw (bits-there i n (omega arith), bit) refl

  -- ones after some
  bits-past : (i n m : ℕ) → end ≤ i + n → bits_padded bytes end i (n + m) ≡ bits_padded bytes end i n * 2 ^ m + (2 ^ m - 1)
  unfolding bits_padded
  bits-past i n zero past = rw (add-zero n) (omega arith)
  bits-past i n (suc m) past =
      let rest = bits-past i n m past in
      let some = pow_pos m in
      let bit : bit_padded bytes end (i + (n + m)) ≡ 1 = padded-past (i + (n + m)) (present-past-end bytes end (i + (n + m)) (omega arith)) in
      let doubled : bits_padded bytes end i n * 2 ^ suc m ≡ bits_padded bytes end i n * 2 ^ m * 2 =
      ap (λ (p : ℕ). bits_padded bytes end i n * p) (pow-suc 2 m) ∙ sym (mul_assoc (bits_padded bytes end i n) (2 ^ m) 2) in
      let twice : 2 ^ suc m ≡ 2 ^ m * 2 = pow-suc 2 m in
      rw (add-suc n m, bit, doubled, twice) (omega arith)

  -- a window whose bits are all there, and one with ones after the last
  module _ (at w : ℕ) (before : at < end) (there : end ≤ 8 * length bytes) (shows : Shows bytes at w) where
    pub padded-whole : 56 ≤ end - at → w / 256 ≡ bits_padded bytes end at 56
    padded-whole many = shows.top 56 (omega arith) (omega arith) ∙ sym (bits-there at 56 (omega arith))

    pub padded-ones : (n r : ℕ) → n ≡ end - at → n < 56 → r ≡ w / 2 ^ (64 - n) * 2 ^ (64 - n) + (2 ^ (64 - n) - 1) → r / 256 ≡ bits_padded bytes end at 56
    padded-ones n r is few made =
        let x = bits_padded bytes end at n in
        let first : w / 2 ^ (64 - n) ≡ x = shows.top n (omega arith) (omega arith) ∙ sym (bits-there at n (omega arith)) in
        let parts : 56 - n + 8 ≡ 64 - n = omega arith in
        let whole : n + (56 - n) ≡ 56 = omega arith in
        let power : 2 ^ (64 - n) ≡ 2 ^ (56 - n) * 256 = ap (λ (k : ℕ). 2 ^ k) (sym parts) ∙ pow-add 2 (56 - n) 8 in
        let some = pow_pos (56 - n) in
        let product : x * (2 ^ (56 - n) * 256) ≡ x * 2 ^ (56 - n) * 256 = sym (mul_assoc x (2 ^ (56 - n)) 256) in
        let ones : bits_padded bytes end at 56 ≡ x * 2 ^ (56 - n) + (2 ^ (56 - n) - 1) = ap (bits_padded bytes end at) (sym whole) ∙ bits-past at n (56 - n) (omega arith) in
        let all : r ≡ x * 2 ^ (56 - n) * 256 + (2 ^ (56 - n) * 256 - 1) = made ∙ rw (first, power, product) refl in
        rw (ones, all) (omega arith)

  -- a bit from within others
  digit : (i a b : ℕ) → bits_padded bytes end i (a + 1 + b) / 2 ^ b % 2 ≡ bit_padded bytes end (i + a)
  unfolding bits_padded
  digit i a zero =
      let small = padded-small (i + a) in
      rw (add-zero (a + 1), div-one, add-one a) (omega arith)
  digit i a (suc b) =
      let small = padded-small (i + (a + 1 + b)) in
      let split : 2 ^ suc b ≡ 2 ^ (1 + b) = ap (λ (k : ℕ). 2 ^ k) (omega arith) in
      let half : (2 * bits_padded bytes end i (a + 1 + b) + bit_padded bytes end (i + (a + 1 + b))) / 2 ≡ bits_padded bytes end i (a + 1 + b) = omega arith in
      rw (add-suc (a + 1) b, split, ← shr-shr (2 * bits_padded bytes end i (a + 1 + b) + bit_padded bytes end (i + (a + 1 + b))) 1 b, half) (digit i a b)

  -- bytes that have these bits, and no bits but these
  abbrev pub padded : ℕ → List ℕ
  padded n = tabulate n (λ j. bits_padded bytes end (8 * j) 8)

  padded-bit : (n i : ℕ) → i < 8 * n → bit_at (padded n) i ≡ bit_padded bytes end i
  unfolding bit_at
  padded-bit n i inside =
      let whole : i % 8 + 1 + (7 - i % 8) ≡ 8 = omega arith in
      let here : 8 * (i / 8) + i % 8 ≡ i = omega arith in
      ap (λ (byte : ℕ). byte / 2 ^ (7 - i % 8) % 2) (get_d_tabulate n (λ j. bits_padded bytes end (8 * j) 8) (i / 8) 0 (omega arith) ∙ ap (bits_padded bytes end (8 * (i / 8))) (sym whole))
      ∙ digit (8 * (i / 8)) (i % 8) (7 - i % 8)
      ∙ ap (bit_padded bytes end) here

  padded-bits : (m i n : ℕ) → i + n ≤ 8 * m → bits_from (padded m) i n ≡ bits_padded bytes end i n
  unfolding bits_padded bits_from
  padded-bits m i zero inside = refl
  padded-bits m i (suc n) inside = rw (padded-bits m i n (omega arith), padded-bit m (i + n) (omega arith)) refl

  padded-length : (n : ℕ) → length (padded n) ≡ n
  padded-length n = length-tabulate n (λ j. bits_padded bytes end (8 * j) 8)

  pub padded-ahead : (m w i : ℕ) → w / 256 ≡ bits_padded bytes end i 56 → i + 56 ≤ 8 * m → Ahead (padded m) (8 * m) w i 56
  padded-ahead m w i top inside =
      record { few = omega arith; top = top ∙ sym (padded-bits m i 56 inside); inside = omega (arith, padded-length m) }

  -- each of their bits is one of the data, no later than the last
  pub padded-has : (m : ℕ) → end ≤ 8 * m →
      Has (λ k. min k (min end (8 * length bytes))) (record { bytes = padded m; end = 8 * m; stated = true }) (record { bytes = bytes; end = end; stated = true })
  unfolding present
  padded-has m long k bit next e = by (present bytes end k) refl
    where
      within : present (padded m) (8 * m) k ≡ true → (bit_padded bytes end k ≡ bit) × (k + 1 ≡ next)
      within p =
          let t : Taken (bit_at (padded m) k) (k + 1) ≡ Taken bit next = sym (take-present (padded m) (8 * m) k true p) ∙ e in
          let below = present-below (padded m) (8 * m) k p in
          (sym (padded-bit m k (omega arith)) ∙ cc, cc)

      beyond : present bytes end k ≡ false → (there : Bool) → present (padded m) (8 * m) k ≡ there → (bit ≡ 1) × (k ≤ next)
      beyond p true t = (sym (within t).0 ∙ padded-past k p, omega (arith, (within t).1))
      beyond p false t =
          let u : Taken 1 k ≡ Taken bit next = sym (take-past-stated (padded m) (8 * m) k true t refl) ∙ e in
          let n : k ≡ next = cc in
          (cc, omega arith)

      by : (there : Bool) → present bytes end k ≡ there → take_bit bytes end true (min k (min end (8 * length bytes))) ≡ Taken bit (min next (min end (8 * length bytes)))
      by true p =
          let below = present-below bytes end k p in
          let taken = within (lt-ltb k (min (8 * m) (8 * length (padded m))) (omega (arith, padded-length m))) in
          let here : min k (min end (8 * length bytes)) ≡ k = omega arith in
          let after : min next (min end (8 * length bytes)) ≡ k + 1 = omega (arith, taken.1) in
          rw (here, after) (take-present bytes end k true p ∙ ap (λ (x : ℕ). Taken x (k + 1)) (sym (padded-there k p) ∙ taken.0))
      by false p =
          let past = ltb-false k (min end (8 * length bytes)) p in
          let taken = beyond p (present (padded m) (8 * m) k) refl in
          let here : min k (min end (8 * length bytes)) ≡ min end (8 * length bytes) = omega arith in
          let after : min next (min end (8 * length bytes)) ≡ min end (8 * length bytes) = omega (arith, taken.1) in
          rw (here, after, taken.0) (take-past-stated bytes end (min end (8 * length bytes)) true (le-ltb (min end (8 * length bytes)) (min end (8 * length bytes)) (omega arith)) refl)
