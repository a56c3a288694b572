-- Laws of bits: where one is there, and what taking one gives.
-- Assumes nothing.
use mathlib.Core.Path.{◌≡◌, refl, sym, ◌∙◌}
use mathlib.Core.Bool.{Bool, true, false}
use mathlib.Core.List.{List}
use Prim.Native.Nat.{ℕ, ◌+◌, ◌*◌, ◌/◌, ◌≤◌, ◌<◌, min}
use native.Mathlib.Omega.{arith}
use lib.Dec.{ltb}
use lib.ListN.{length}
use borrow.Author.Tests.{lt-ltb, le-ltb, ltb-true, ltb-false}
use Rattle.exp_golomb.specs.Bits.{Bit, Taken, Absent, bit_at, present, take_bit}

module _ (bytes : List ℕ) (end i : ℕ) where
  -- a bit is there before the end, in a byte that is there
  pub present-second : i < end → ltb (i / 8) (length bytes) ≡ present bytes end i
  unfolding present
  present-second before = by (ltb (i / 8) (length bytes)) refl
    where
      by : (q : Bool) → ltb (i / 8) (length bytes) ≡ q → q ≡ present bytes end i
      by true inside =
          let b = ltb-true (i / 8) (length bytes) inside in
          sym (lt-ltb i (min end (8 * length bytes)) (omega arith))
      by false past =
          let b = ltb-false (i / 8) (length bytes) past in
          sym (le-ltb i (min end (8 * length bytes)) (omega arith))

  pub present-past-end : end ≤ i → present bytes end i ≡ false
  unfolding present
  present-past-end past = le-ltb i (min end (8 * length bytes)) (omega arith)

  pub present-below : present bytes end i ≡ true → i < min end (8 * length bytes)
  unfolding present
  present-below e = ltb-true i (min end (8 * length bytes)) e

  module _ (stated : Bool) where
    -- the bit that is there, and what a bit past the data reads as
    pub take-present : present bytes end i ≡ true → take_bit bytes end stated i ≡ Taken (bit_at bytes i) (i + 1)
    unfolding take_bit
    take-present e = rw e

    pub take-past-stated : present bytes end i ≡ false → stated ≡ true → take_bit bytes end stated i ≡ Taken 1 i
    unfolding take_bit
    take-past-stated e s = rw (e, s)

    pub take-absent : present bytes end i ≡ false → stated ≡ false → take_bit bytes end stated i ≡ Absent
    unfolding take_bit
    take-absent e s = rw (e, s)

-- a bit is 0 or 1
pub bit-small : (bytes : List ℕ) (i : ℕ) → bit_at bytes i ≤ 1
unfolding bit_at
bit-small bytes i = omega arith

-- what is known of a bit that was taken
pub record BitTaken (bytes : List ℕ) (end i bit next : ℕ) : Type 0 where
  pub small : bit ≤ 1
  pub goes_on : i ≤ next
  pub one_at_most : next ≤ i + 1
  pub within : (i ≤ min end (8 * length bytes)) → next ≤ min end (8 * length bytes)

pub bit-taken : (bytes : List ℕ) (end : ℕ) (stated : Bool) (i bit next : ℕ) → take_bit bytes end stated i ≡ Taken bit next → BitTaken bytes end i bit next
unfolding take_bit
bit-taken bytes end stated i bit next e = by-presence (present bytes end i) refl
  where
    there : present bytes end i ≡ true → BitTaken bytes end i bit next
    there p =
        let same : Taken (bit_at bytes i) (i + 1) ≡ Taken bit next = sym (take-present bytes end i stated p) ∙ e in
        let b : bit_at bytes i ≡ bit = cc in
        let n : i + 1 ≡ next = cc in
        let small = bit-small bytes i in
        let below = present-below bytes end i p in
        record { small = omega arith; goes_on = omega arith; one_at_most = omega arith; within = λ h. omega arith }

    past : present bytes end i ≡ false → (s : Bool) → stated ≡ s → BitTaken bytes end i bit next
    past p true s =
        let same : Taken 1 i ≡ Taken bit next = sym (take-past-stated bytes end i stated p s) ∙ e in
        let b : 1 ≡ bit = cc in
        let n : i ≡ next = cc in
        record { small = omega arith; goes_on = omega arith; one_at_most = omega arith; within = λ h. omega arith }
    past p false s =
        let same : Absent ≡ Taken bit next = sym (take-absent bytes end i stated p s) ∙ e in
        let z : ◌≡◌ {A = ℕ} 0 1 = cc in
        absurd (omega arith)

    by-presence : (q : Bool) → present bytes end i ≡ q → BitTaken bytes end i bit next
    by-presence true p = there p
    by-presence false p = past p stated refl

-- a bit that was taken from data of no stated length is one that is there
pub unstated-taken : (bytes : List ℕ) (end i bit next : ℕ) → take_bit bytes end false i ≡ Taken bit next →
    (i < min end (8 * length bytes)) × (bit_at bytes i ≡ bit) × (i + 1 ≡ next)
unstated-taken bytes end i bit next e = by (present bytes end i) refl
  where
    by : (there : Bool) → present bytes end i ≡ there → (i < min end (8 * length bytes)) × (bit_at bytes i ≡ bit) × (i + 1 ≡ next)
    by true p =
        let same : Taken (bit_at bytes i) (i + 1) ≡ Taken bit next = sym (take-present bytes end i false p) ∙ e in
        (present-below bytes end i p, cc, cc)
    by false p =
        let same : Absent ≡ Taken bit next = sym (take-absent bytes end i false p refl) ∙ e in
        let z : ◌≡◌ {A = ℕ} 0 1 = cc in
        absurd (omega arith)

-- what taking a bit can find
pub takes : (P : Type 0) (b : Bit) → ((bit next : ℕ) → b ≡ Taken bit next → P) → (b ≡ Absent → P) → P
takes P (Taken bit next) yes-bit no-bit = yes-bit bit next refl
takes P Absent yes-bit no-bit = no-bit refl

-- data of a stated length miss no bit
pub stated-bit : (bytes : List ℕ) (end : ℕ) (P : Type 0) (i : ℕ) → ((bit next : ℕ) → take_bit bytes end true i ≡ Taken bit next → P) → P
stated-bit bytes end P i go = by (present bytes end i) refl
  where
    by : (there : Bool) → present bytes end i ≡ there → P
    by true p = go _ _ (take-present bytes end i true p)
    by false p = go _ _ (take-past-stated bytes end i true p refl)

-- a bit that is absent is past the end
pub absent-past : (bytes : List ℕ) (end : ℕ) (stated : Bool) (i : ℕ) → take_bit bytes end stated i ≡ Absent → min end (8 * length bytes) ≤ i
unfolding present
absent-past bytes end stated i e = by (present bytes end i) refl
  where
    by : (there : Bool) → present bytes end i ≡ there → min end (8 * length bytes) ≤ i
    by true p =
        let never : Taken (bit_at bytes i) (i + 1) ≡ Absent = sym (take-present bytes end i stated p) ∙ e in
        let z : ◌≡◌ {A = ℕ} 0 1 = cc in
        absurd (omega arith)
    by false p = ltb-false i (min end (8 * length bytes)) p
