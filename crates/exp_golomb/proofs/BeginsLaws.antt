-- Laws of data that begin with other data: a bit or a number that those have is theirs too.
-- Assumes nothing.
use mathlib.Core.Path.{◌≡◌, refl, sym, ap, ◌∙◌}
use mathlib.Core.Bool.{Bool, true, false}
use mathlib.Core.List.{List}
use Prim.Native.Nat.{ℕ, ◌+◌, ◌*◌, min}
use native.Mathlib.Omega.{arith}
use lib.ListN.{length}
use borrow.Author.Tests.{lt-ltb, le-ltb, ltb-false}
use Rattle.exp_golomb.specs.Bits.{Taken, Absent, present, take_bit}
use Rattle.exp_golomb.specs.Begins.{Begins}
use Rattle.exp_golomb.specs.Codes.{Number, Read, Missing, TooLong, signed}
use Rattle.exp_golomb.proofs.BitsLaws.{take-present, take-absent, take-past-stated, present-below}
use Rattle.exp_golomb.proofs.Moved.{moved, NotMissing, signed-moved}

module _ (stated : Bool) (a : List ℕ) (end_a : ℕ) (b : List ℕ) (end_b : ℕ) (begins : Begins stated a end_a b end_b) where
  pub bit-begins : (k bit next : ℕ) → take_bit a end_a stated k ≡ Taken bit next → take_bit b end_b true k ≡ Taken bit next
  unfolding present
  bit-begins k bit next e = by (present a end_a k) refl
    where
      by : (there : Bool) → present a end_a k ≡ there → take_bit b end_b true k ≡ Taken bit next
      by true p =
          let below = present-below a end_a k p in
          let there : present b end_b k ≡ true = lt-ltb k (min end_b (8 * length b)) (begins.there k below) in
          take-present b end_b k true there ∙ ap (λ (x : ℕ). Taken x (k + 1)) (begins.same k below) ∙ sym (take-present a end_a k stated p) ∙ e
      by false p = past stated refl
        where
          past : (s : Bool) → stated ≡ s → take_bit b end_b true k ≡ Taken bit next
          past true t =
              let beyond = ltb-false k (min end_a (8 * length a)) p in
              let there : present b end_b k ≡ false = le-ltb k (min end_b (8 * length b)) (omega (arith, begins.whole t)) in
              take-past-stated b end_b k true there refl ∙ sym (take-past-stated a end_a k stated p t) ∙ e
          past false t =
              let never : Absent ≡ Taken bit next = sym (take-absent a end_a k stated p t) ∙ e in
              let z : ◌≡◌ {A = ℕ} 0 1 = cc in
              absurd (omega arith)

  moved_none : (n : Number) → moved (λ k. k) n ≡ n
  moved_none (Read size minus next) = refl
  moved_none (Missing next) = refl
  moved_none (TooLong next) = refl

  pub signed-begins : (i : ℕ) (n : Number) → signed a end_a stated i ≡ n → NotMissing n → signed b end_b true i ≡ n
  signed-begins i n e whole =
      signed-moved (λ k. k) (record { bytes = a; end = end_a; stated = stated }) (record { bytes = b; end = end_b; stated = true }) bit-begins i n e whole ∙ moved_none n

-- data begin themselves
pub begins-itself : (stated : Bool) (a : List ℕ) (end : ℕ) → Begins stated a end a end
begins-itself stated a end = record { there = λ k h. h; same = λ k h. refl; whole = λ e. omega arith }
