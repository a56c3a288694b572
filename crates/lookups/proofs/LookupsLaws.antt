-- A table over eight bits: a lookup that a test of the eight allows is right of them, and what it tells is so where data have these bits.
-- Assumes nothing.
use mathlib.Core.Path.{◌≡◌, refl, sym, ap, ◌∙◌}
use mathlib.Core.Logic.{◌≢◌}
use mathlib.Core.Bool.{Bool, true, false, cond, ◌&&◌}
use mathlib.Core.List.{List, [], ◌∷◌}
use Prim.Native.Nat.{ℕ, ◌+◌, ◌-◌, ◌*◌, ◌/◌, ◌%◌, ◌^◌, ◌≤◌, ◌<◌}
use native.Mathlib.Nat.{add_assoc}
use native.Mathlib.Decide.{ℕ_discrete}
use native.Mathlib.Omega.{arith}
use lib.Dec.{eqb, ltb}
use lib.ListN.{get_or}
use borrow.Author.Tests.{eqb-true, ltb-true, eq-eqb, ne_eqb}
use Rattle.base.specs.Every.{all_below}
use Rattle.base.proofs.EveryLaws.{all-at}
use Rattle.base.proofs.Booleans.{and_left, and_right}
use Rattle.exp_golomb.specs.Bits.{Taken, bit_at, bits_from, present, take_bit}
use Rattle.exp_golomb.specs.Codes.{Number, Read, Missing, TooLong, code_from, unsigned, signed}
use Rattle.lookups.specs.Windows.{Ahead}
use Rattle.lookups.specs.Lookups.{Describes, KnowsCodes, lookup_of}
use Rattle.lookups.specs.declared.Lookup.{Lookup}
use Rattle.exp_golomb.proofs.BitsLaws.{take-present, unstated-taken}
use Rattle.exp_golomb.proofs.CodesLaws.{code-ends, sign-none}
use Rattle.exp_golomb.proofs.Moved.{signed-moved}
use Rattle.lookups.proofs.WindowsLaws.{bits-within, one_bit, ahead-present, ahead-first}

-- whether a number is one that was read: 2 · size, and one more below 0
unfoldable pub is_read : Number → ℕ → ℕ → Bool
is_read (Read size minus next) value end = eqb (2 * size + cond minus 1 0) value && eqb next end
is_read (Missing next) value end = false
is_read (TooLong next) value end = false

is_read-told : (number : Number) (value end : ℕ) → is_read number value end ≡ true → number ≡ Read (value / 2) (eqb (value % 2) 1) end
unfolding is_read
is_read-told (Read size true next) value end e =
    let v : 2 * size + 1 ≡ value = eqb-true (2 * size + 1) value (and_left (eqb (2 * size + 1) value) (eqb next end) e) in
    let n : next ≡ end = eqb-true next end (and_right (eqb (2 * size + 1) value) (eqb next end) e) in
    let half : value / 2 ≡ size = omega arith in
    let odd : value % 2 ≡ 1 = omega arith in
    rw (half, odd, n) refl
is_read-told (Read size false next) value end e =
    let v : 2 * size + 0 ≡ value = eqb-true (2 * size + 0) value (and_left (eqb (2 * size + 0) value) (eqb next end) e) in
    let n : next ≡ end = eqb-true next end (and_right (eqb (2 * size + 0) value) (eqb next end) e) in
    let half : value / 2 ≡ size = omega arith in
    let even : value % 2 ≡ 0 = omega arith in
    rw (half, even, n) refl
is_read-told (Missing next) value end e = cc
is_read-told (TooLong next) value end e = cc

-- whether a number is one of which a bit is missing, where the data end
unfoldable pub is_missing : Number → ℕ → Bool
is_missing (Read size minus next) end = false
is_missing (Missing next) end = eqb next end
is_missing (TooLong next) end = false

is-missing : (number : Number) (end : ℕ) → is_missing number end ≡ true → number ≡ Missing end
unfolding is_missing
is-missing (Read size minus next) end e = cc
is-missing (Missing next) end e = ap (λ (k : ℕ). Missing k) (eqb-true next end e)
is-missing (TooLong next) end e = cc

-- the test of a lookup
unfoldable pub bounded : Lookup → Bool
bounded s = ltb s.zeros 9 && (ltb s.bits 9 && ltb s.value 30)

unfoldable pub all_ones : ℕ → Lookup → Bool
all_ones c s = all_below s.zeros (λ j. eqb (bit_at (c ∷ []) j) 1)

unfoldable pub valued : ℕ → Lookup → Bool
valued c s =
    cond (eqb s.count s.zeros)
    (eqb s.value 0 && (eqb s.bits s.zeros && is_missing (signed (c ∷ []) 8 false s.zeros) 8))
    (eqb s.count (s.zeros + 1) && (is_read (signed (c ∷ []) 8 false s.zeros) s.value s.bits && ltb 1 s.value))

unfoldable pub lookup_test : ℕ → Lookup → Bool
lookup_test c s = bounded s && (all_ones c s && valued c s)

lookup-describes : (c : ℕ) (s : Lookup) → lookup_test c s ≡ true → Describes c s
unfolding lookup_test bounded all_ones valued
lookup-describes c s e =
    let b = and_left (bounded s) (all_ones c s && valued c s) e in
    let rest = and_right (bounded s) (all_ones c s && valued c s) e in
    let b₂ = and_right (ltb s.zeros 9) (ltb s.bits 9 && ltb s.value 30) b in
    let o = and_left (all_ones c s) (valued c s) rest in
    let v = and_right (all_ones c s) (valued c s) rest in
    let z₁ = ltb-true s.zeros 9 (and_left (ltb s.zeros 9) (ltb s.bits 9 && ltb s.value 30) b) in
    let b₁ = ltb-true s.bits 9 (and_left (ltb s.bits 9) (ltb s.value 30) b₂) in
    record {
      zeros_most = omega arith;
      bits_most = omega arith;
      value_most = ltb-true s.value 30 (and_right (ltb s.bits 9) (ltb s.value 30) b₂);
      ones = λ j h. eqb-true (bit_at (c ∷ []) j) 1 (all-at (λ j. eqb (bit_at (c ∷ []) j) 1) s.zeros j o h);
      none = λ same.
          let w = rw (eq-eqb s.count s.zeros same) at v in
          let missing = is_missing (signed (c ∷ []) 8 false s.zeros) 8 in
          let w₂ = and_right (eqb s.value 0) (eqb s.bits s.zeros && missing) w in (
            eqb-true s.value 0 (and_left (eqb s.value 0) (eqb s.bits s.zeros && missing) w),
            eqb-true s.bits s.zeros (and_left (eqb s.bits s.zeros) missing w₂),
            is-missing _ 8 (and_right (eqb s.bits s.zeros) missing w₂),
          );
      some = λ other.
          let w = rw (ne_eqb s.count s.zeros other) at v in
          let read = is_read (signed (c ∷ []) 8 false s.zeros) s.value s.bits in
          let w₂ = and_right (eqb s.count (s.zeros + 1)) (read && ltb 1 s.value) w in
          let large = ltb-true 1 s.value (and_right read (ltb 1 s.value) w₂) in (
            eqb-true s.count (s.zeros + 1) (and_left (eqb s.count (s.zeros + 1)) (read && ltb 1 s.value) w),
            is_read-told _ s.value s.bits (and_left read (ltb 1 s.value) w₂),
            (λ nothing. omega arith),
          );
    }

-- a lookup has one value after its zeros at most
pub lookup-count : (c : ℕ) (s : Lookup) → Describes c s → s.count ≤ s.zeros + 1
lookup-count c s right =
    elim (ℕ_discrete s.count s.zeros) [
      | yes same ↦ omega arith
      | no other ↦ omega (arith, (right.some other).0)
    ]

-- the test of a table, which is computed
unfoldable pub entry_describes : List ℕ → ℕ → Bool
entry_describes table c = lookup_test c (lookup_of (get_or table c 0))

pub table-describes : (table : List ℕ) → all_below 256 (entry_describes table) ≡ true → KnowsCodes table
unfolding entry_describes
table-describes table all = record { each = λ c small. lookup-describes c (lookup_of (get_or table c 0)) (all-at (entry_describes table) 256 c all small) }

module _ (bytes : List ℕ) (end : ℕ) where
  -- a 1 is the number 0
  pub zero-signed : (at : ℕ) → present bytes end at ≡ true → bit_at bytes at ≡ 1 → signed bytes end true at ≡ Read 0 false (at + 1)
  unfolding signed unsigned
  zero-signed at p one =
      sign-none bytes end true (code_from bytes end true 31 1 at) 0 false (at + 1) (code-ends bytes end true 31 1 at (bit_at bytes at) (at + 1) (take-present bytes end at true p) one) refl

  module _ (w i n c : ℕ) (ahead : Ahead bytes end w i n) (many : 8 ≤ n) (eight : c ≡ w / 2 ^ 56) (s : Lookup) (right : Describes c s) where
    -- a bit of the eight
    nth : (j : ℕ) → j < 8 → bit_at (c ∷ []) j ≡ bit_at bytes (i + j)
    unfolding bit_at
    nth j below =
        let byte : j / 8 ≡ 0 = omega arith in
        let place : 7 - j % 8 ≡ 7 - j = omega arith in
        let whole : j + 1 + (7 - j) ≡ 8 = omega arith in
        rw (byte, place)
        (ap (λ (k : ℕ). k / 2 ^ (7 - j) % 2) (eight ∙ ahead-first bytes end w i n ahead 8 many ∙ ap (bits_from bytes i) (sym whole))
        ∙ bits-within bytes i j 1 (7 - j)
        ∙ one_bit bytes (i + j))

    pub lookup-ones : (j : ℕ) → j < s.zeros → bit_at bytes (i + j) ≡ 1
    lookup-ones j below = sym (nth j (omega (arith, right.zeros_most))) ∙ right.ones j below

    pub lookup-present : (j : ℕ) → j < 8 → present bytes end (i + j) ≡ true
    lookup-present j below = ahead-present bytes end w i n ahead j (omega arith)

    taken-there : (k bit after : ℕ) → take_bit (c ∷ []) 8 false k ≡ Taken bit after → take_bit bytes end true (i + k) ≡ Taken bit (i + after)
    taken-there k bit after e =
        let there = unstated-taken (c ∷ []) 8 k bit after e in
        let few : k < 8 = omega (arith, there.0) in
        take-present bytes end (i + k) true (lookup-present k few)
        ∙ rw (← there.2, ← there.1, nth k few, add_assoc i k 1) refl

    pub lookup-number : s.count ≢ s.zeros → signed bytes end true (i + s.zeros) ≡ Read (s.value / 2) (eqb (s.value % 2) 1) (i + s.bits)
    lookup-number other =
        signed-moved (λ k. i + k) (record { bytes = c ∷ []; end = 8; stated = false }) (record { bytes = bytes; end = end; stated = true })
        taken-there s.zeros _ (right.some other).1 tt
