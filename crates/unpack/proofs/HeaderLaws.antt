-- Laws of a header: the ways that it can go, what it announces and how far it reaches.
-- Assumes nothing.
use mathlib.Core.Path.{◌≡◌, refl, sym, ◌∙◌, subst}
use mathlib.Core.Logic.{◌≢◌}
use mathlib.Core.Bool.{Bool, false}
use mathlib.Core.List.{List, ◌++◌}
use Prim.Native.Nat.{ℕ, zero, suc, ◌+◌, ◌-◌, ◌*◌, ◌%◌, ◌^◌, ◌≤◌, ◌<◌, min}
use native.Mathlib.Decide.{dec_lt, ℕ_discrete}
use native.Mathlib.Omega.{arith}
use lib.ListN.{length}
use lib.Pow.{pow_mono}
use borrow.Author.Tests.{lt-ltb, le-ltb, eq-eqb, ne_eqb}
use Rattle.exp_golomb.specs.Bits.{present, take_bit}
use Rattle.std.specs.Prelude.{Err}
use Rattle.base.specs.declared.status.Fault.{Fault}
use Rattle.exp_golomb.specs.Codes.{Number, Read, Missing, TooLong, result_of, code_from, unsigned}
use Rattle.exp_golomb.proofs.BitsLaws.{bit-taken, takes}
use Rattle.exp_golomb.proofs.CodesLaws.{result-fault, code-missing, code-ends, code-too-long, code-cut, code-goes-on, value_grows}
use Rattle.exp_golomb.proofs.Extent.{CodeEnd, unsigned-end, unsigned-same}
use Rattle.exp_golomb.proofs.Followed.{number-followed}
use Rattle.unpack.specs.Header.{Header, Skipped, Coded, Refused, header_of, boundary, refused_at, on_read, header_at}
use Rattle.unpack.specs.Bounds.{SoundHeader}

-- a bit is there before an end that is out of its reach just where it is there before the bytes' own end
present-open : (bytes : List ℕ) (end k : ℕ) → k < end → present bytes end k ≡ present bytes (8 * length bytes) k
unfolding present
present-open bytes end k bits_most =
    elim (dec_lt k (8 * length bytes)) [
      | yes inside ↦
          lt-ltb k (min end (8 * length bytes)) (omega arith) ∙ sym (lt-ltb k (min (8 * length bytes) (8 * length bytes)) (omega arith))
      | no outside ↦
          le-ltb k (min end (8 * length bytes)) (omega arith) ∙ sym (le-ltb k (min (8 * length bytes) (8 * length bytes)) (omega arith))
    ]

-- so a number with an end that is out of its reach is the number up to the bytes' own end
pub number-open : (bytes : List ℕ) (end i : ℕ) → i + 62 < end → unsigned bytes end false i ≡ unsigned bytes (8 * length bytes) false i
number-open bytes end i bits_most = unsigned-same bytes end (8 * length bytes) false i (λ k h. present-open bytes end k (omega arith))

-- The size of a number that was read, or 0.
abbrev size_read : Number → ℕ
size_read (Read size minus next) = size
size_read (Missing next) = 0
size_read (TooLong next) = 0

module _ (bytes : List ℕ) (end : ℕ) (stated : Bool) where
  -- the size of a code that may have so many data bits more has at most 32 bits
  code-small : (left v i : ℕ) → left ≤ 31 → v < 2 ^ (32 - left) → size_read (code_from bytes end stated left v i) < 2 ^ 32
  code-small zero v i few below =
      takes (size_read (code_from bytes end stated zero v i) < 2 ^ 32) (take_bit bytes end stated i)
      (λ bit next e.
      elim (ℕ_discrete bit 1) [
        | yes one ↦ rw (code-ends bytes end stated zero v i bit next e one) (omega arith)
        | no other ↦ rw (code-too-long bytes end stated zero v i bit next e other refl) (omega arith)
      ])
      (λ e. rw (code-missing bytes end stated zero v i e) (omega arith))
  code-small (suc left) v i few below =
      takes (size_read (code_from bytes end stated (suc left) v i) < 2 ^ 32) (take_bit bytes end stated i)
      (λ bit next e.
      elim (ℕ_discrete bit 1) [
        | yes one ↦ rw (code-ends bytes end stated (suc left) v i bit next e one) (omega (arith, power-most (suc left)))
        | no other ↦
            takes (size_read (code_from bytes end stated (suc left) v i) < 2 ^ 32) (take_bit bytes end stated next)
            (λ d after e2.
            let less : suc left - 1 ≡ left = omega arith in
            let grown : 2 * v + d < 2 ^ (32 - left) = rw less at (value_grows v d (suc left) few (omega arith) (bit-taken bytes end stated next d after e2).small below) in
            rw (code-goes-on bytes end stated (suc left) v i bit next d after e other (omega arith) e2, less)
            (code-small left (2 * v + d) after (omega arith) grown))
            (λ e2. rw (code-cut bytes end stated (suc left) v i bit next e other (omega arith) e2) (omega arith))
      ])
      (λ e. rw (code-missing bytes end stated (suc left) v i e) (omega arith))
    where
      power-most : (n : ℕ) → 2 ^ (32 - n) ≤ 2 ^ 32
      power-most n = pow_mono {i = 32 - n} {j = 32} (omega arith)

  -- so a number has
  number_small : (i size : ℕ) (minus : Bool) (next : ℕ) → unsigned bytes end stated i ≡ Read size minus next → size < 2 ^ 32
  unfolding unsigned
  number_small i size minus next e = subst (λ (n : Number). size_read n < 2 ^ 32) e (code-small 31 1 i (omega arith) (omega arith))

-- the fault of a number that was not read is the header's
pub fault-refused : (number : Number) (fault : Fault) → Err fault ≡ result_of number → header_of (Err fault) ≡ refused_at number
fault-refused number fault e = let f = result-fault number fault e in rw (f.0, f.1) refl

-- a number that was not read ends a header
read-refused : (number : Number) (go : ℕ → ℕ → Header) → ((size : ℕ) (minus : Bool) (next : ℕ) → number ≡ Read size minus next → ⊥) →
    on_read number go ≡ refused_at number
unfolding on_read
read-refused (Read size minus next) go none = absurd (none size minus next refl)
read-refused (Missing next) go none = refl
read-refused (TooLong next) go none = refl

-- the ways that a header can go
module _ (bytes : List ℕ) (at : ℕ) where
  abbrev number_at : ℕ → Number
  number_at = unsigned bytes (8 * length bytes) false

  -- its length is not read
  pub no_length : (number : Number) → number ≡ number_at at → ((size : ℕ) (minus : Bool) (next : ℕ) → number ≡ Read size minus next → ⊥) →
      header_at bytes at ≡ refused_at number
  unfolding header_at
  no_length number e none = rw (← e) (read-refused number _ none)

  module _ (size : ℕ) (minus : Bool) (next : ℕ) (read : number_at at ≡ Read size minus next) where
    -- its length is 0
    pub no-data : size ≡ 0 → header_at bytes at ≡ Skipped (boundary next)
    unfolding header_at on_read
    no-data none = rw (read, eq-eqb size 0 none)

    -- its quantiser index is not read
    pub no_index : size ≢ 0 → (number : Number) → number ≡ number_at next →
        ((size₂ : ℕ) (minus₂ : Bool) (next₂ : ℕ) → number ≡ Read size₂ minus₂ next₂ → ⊥) → header_at bytes at ≡ refused_at number
    unfolding header_at on_read
    no_index some number e none = rw (read, ne_eqb size 0 some, ← e) (read-refused number _ none)

    -- both are read
    pub header_read : size ≢ 0 → (index : ℕ) (sign : Bool) (end : ℕ) → number_at next ≡ Read index sign end →
        header_at bytes at ≡ Coded index (boundary end) size
    unfolding header_at on_read
    header_read some index sign end e = rw (read, ne_eqb size 0 some, e)

-- A bit to go on at after what starts at another: no earlier, less far than a reach, the first of a byte, and not past the bytes.
pub record Follows (bytes : List ℕ) (at reach bit : ℕ) : Type 0 where
  pub onward : at ≤ bit
  pub bits_most : bit ≤ at + reach
  pub whole : bit % 8 ≡ 0
  pub within : at ≤ 8 * length bytes → bit ≤ 8 * length bytes

-- the boundary after a number, and after another
boundary-follows : (bytes : List ℕ) (at next : ℕ) → CodeEnd at 63 (8 * length bytes) next → Follows bytes at 134 (boundary next)
unfolding boundary
boundary-follows bytes at next reach =
    record {
      onward = omega (arith, reach.onward);
      bits_most = omega (arith, reach.bits_most);
      whole = omega arith;
      within = λ inside. omega (arith, reach.within inside);
    }

-- What is known of a header that starts at a bit.
abbrev pub Announced : List ℕ → ℕ → Header → Type 0
Announced bytes at (Skipped bit) = Follows bytes at 134 bit
Announced bytes at (Coded index bit size) = Follows bytes at 134 bit × (size < 2 ^ 32)
Announced bytes at (Refused status bit) = status ≢ 0

-- what follows a number that was not read is a refusal
number-announced : (bytes : List ℕ) (at : ℕ) (number : Number) (go : ℕ → ℕ → Header) →
    ((size : ℕ) (minus : Bool) (next : ℕ) → number ≡ Read size minus next → Announced bytes at (go size next)) → Announced bytes at (on_read number go)
unfolding on_read
number-announced bytes at (Read size minus next) go each = each size minus next refl
number-announced bytes at (Missing next) go each = λ e. omega arith
number-announced bytes at (TooLong next) go each = λ e. omega arith

-- and so it is known of each: two numbers take at most 63 bits each
pub header-announced : (bytes : List ℕ) (at : ℕ) → Announced bytes at (header_at bytes at)
unfolding header_at
header-announced bytes at =
    number-announced bytes at (number_at bytes at at) _
    (λ size minus next e.
    let first = unsigned-end bytes (8 * length bytes) false at size minus next e in
    elim (ℕ_discrete size 0) [
      | yes none ↦
          rw (eq-eqb size 0 none)
          (boundary-follows bytes at next (record { onward = first.onward; bits_most = omega (arith, first.bits_most); within = λ inside. omega (arith, first.within (omega arith)) }))
      | no some ↦
          rw (ne_eqb size 0 some)
          (number-announced bytes at (number_at bytes at next) _
          (λ index sign end e2.
          let second = unsigned-end bytes (8 * length bytes) false next index sign end e2 in (
            boundary-follows bytes at end
                (record {
                  onward = omega (arith, first.onward, second.onward);
                  bits_most = omega (arith, first.bits_most, second.bits_most);
                  within = λ inside. omega (arith, second.within (first.within (omega arith)));
                }),
            number_small bytes (8 * length bytes) false at size minus next e,
          )))
    ])

-- so none of the bits of its data is out of reach
pub header-sound : (bytes : List ℕ) (at : ℕ) → at < 2 ^ 61 → SoundHeader (header_at bytes at)
header-sound bytes at small = by (header_at bytes at) (header-announced bytes at)
  where
    by : (h : Header) → Announced bytes at h → SoundHeader h
    by (Skipped bit) known = tt
    by (Coded index bit size) known = (omega (arith, known.0.bits_most), known.1)
    by (Refused status bit) known = tt

-- A header that was read, and ends before a bit or at it.
abbrev pub EndsBy : ℕ → Header → Type 0
EndsBy end (Skipped bit) = bit ≤ end
EndsBy end (Coded index bit size) = bit ≤ end
EndsBy end (Refused status bit) = ⊥

-- a header that ends within bytes is the same whatever follows them
module _ (used a b : List ℕ) (at : ℕ) where
  abbrev number : ℕ → Number
  number = number_at (used ++ a) at

  module _ (size : ℕ) (minus : Bool) (next : ℕ) (read : number at ≡ Read size minus next) where
    -- its quantiser index
    index-followed : size ≢ 0 → (n : Number) → number next ≡ n → EndsBy (8 * length used) (header_at (used ++ a) at) → header_at (used ++ b) at ≡ header_at (used ++ a) at
    unfolding boundary
    index-followed some (Read index sign end) e inside =
        let whole = header_read (used ++ a) at size minus next read some index sign end e in
        let bits_most : boundary end ≤ 8 * length used = rw whole at inside in
        let last = unsigned-end (used ++ a) (8 * length (used ++ a)) false next index sign end e in
        header_read (used ++ b) at size minus next (number-followed used a b at size minus next (omega (arith, last.onward)) read) some index sign end
        (number-followed used a b next index sign end (omega arith) e)
        ∙ sym whole
    index-followed some (Missing end) e inside =
        absurd (rw (no_index (used ++ a) at size minus next read some (Missing end) (sym e) (λ s m n f. let z : ◌≡◌ {A = ℕ} 0 1 = cc in omega arith)) at inside)
    index-followed some (TooLong end) e inside =
        absurd (rw (no_index (used ++ a) at size minus next read some (TooLong end) (sym e) (λ s m n f. let z : ◌≡◌ {A = ℕ} 0 1 = cc in omega arith)) at inside)

  -- and all of it
  pub header-followed : EndsBy (8 * length used) (header_at (used ++ a) at) → header_at (used ++ b) at ≡ header_at (used ++ a) at
  unfolding boundary
  header-followed = by (number at) refl
    where
      by : (n : Number) → number at ≡ n → EndsBy (8 * length used) (header_at (used ++ a) at) → header_at (used ++ b) at ≡ header_at (used ++ a) at
      by (Read size minus next) e inside =
          elim (ℕ_discrete size 0) [
            | yes none ↦
                let whole = no-data (used ++ a) at size minus next e none in
                let bits_most : boundary next ≤ 8 * length used = rw whole at inside in
                no-data (used ++ b) at size minus next (number-followed used a b at size minus next (omega arith) e) none ∙ sym whole
            | no some ↦ index-followed size minus next e some (number next) refl inside
          ]
      by (Missing next) e inside =
          absurd (rw (no_length (used ++ a) at (Missing next) (sym e) (λ s m n f. let z : ◌≡◌ {A = ℕ} 0 1 = cc in omega arith)) at inside)
      by (TooLong next) e inside =
          absurd (rw (no_length (used ++ a) at (TooLong next) (sym e) (λ s m n f. let z : ◌≡◌ {A = ℕ} 0 1 = cc in omega arith)) at inside)
