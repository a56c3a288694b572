-- Laws of number codes: one for each way that reading a bit or two can go on.
-- Assumes nothing.
use mathlib.Core.Path.{◌≡◌, refl}
use mathlib.Core.Logic.{◌≢◌}
use mathlib.Core.Bool.{Bool, false}
use mathlib.Core.List.{List}
use Prim.Native.Nat.{ℕ, zero, suc, ◌+◌, ◌-◌, ◌*◌, ◌^◌, ◌≤◌, ◌<◌}
use native.Mathlib.Omega.{arith}
use lib.Dec.{eqb}
use lib.Pow.{pow-add}
use borrow.Author.Tests.{ne_eqb}
use Rattle.exp_golomb.specs.Bits.{Bit, Taken, Absent, take_bit}
use Rattle.base.specs.Refusals.{number_of}
use Rattle.base.specs.declared.status.Fault.{Fault}
use Rattle.exp_golomb.specs.Codes.{Number, Read, Missing, TooLong, status_of, next_of, needed, result_of, on_bit, code_from, with_sign_bit}
use Rattle.exp_golomb.specs.declared.bits.TakenBit.{TakenBit}
use Rattle.exp_golomb.specs.declared.codes.ReadNumber.{ReadNumber}
use Rattle.std.proofs.Common.{Ok, Err}

-- what the code says of a bit that a number needs
pub needed-taken : (b : Bit) (i : ℕ) (t : TakenBit) → Ok t ≡ needed b i → b ≡ Taken t.bit t.next
needed-taken (Taken bit next) i t e = cc
needed-taken Absent i t e = cc

pub needed-absent : (b : Bit) (i : ℕ) (fault : Fault) → Err fault ≡ needed b i → (b ≡ Absent) × (Err fault ≡ result_of (Missing i))
needed-absent (Taken bit next) i fault e = cc
needed-absent Absent i fault e = (refl, cc)

-- what it says of a number: one that was read, and a refusal
pub result-read : (number : Number) (n : ReadNumber) → Ok n ≡ result_of number → number ≡ Read n.size n.minus n.next
result-read (Read size minus next) n e = cc
result-read (Missing next) n e = cc
result-read (TooLong next) n e = cc

pub result-fault : (number : Number) (fault : Fault) → Err fault ≡ result_of number →
    (number_of fault.refusal ≡ status_of number) × (fault.bit ≡ next_of number) × ((size : ℕ) (minus : Bool) (next : ℕ) → number ≡ Read size minus next → ⊥)
result-fault (Read size minus next) fault e = cc
result-fault (Missing next) fault e = (cc, cc, λ size minus n h. cc)
result-fault (TooLong next) fault e = (cc, cc, λ size minus n h. cc)

module _ (bytes : List ℕ) (end : ℕ) (stated : Bool) where
  abbrev take : ℕ → Bit
  take = take_bit bytes end stated

  abbrev code : ℕ → ℕ → ℕ → Number
  code = code_from bytes end stated

  -- no bit at all
  pub code-missing : (left v i : ℕ) → take i ≡ Absent → code left v i ≡ Missing i
  unfolding code_from on_bit
  code-missing zero v i e = rw e
  code-missing (suc left) v i e = rw e

  -- a bit 1 ends the number
  pub code-ends : (left v i bit next : ℕ) → take i ≡ Taken bit next → bit ≡ 1 → code left v i ≡ Read (v - 1) false next
  unfolding code_from on_bit
  code-ends zero v i bit next e one = rw (e, one)
  code-ends (suc left) v i bit next e one = rw (e, one)

  -- another one, where no data bit may follow
  pub code-too-long : (left v i bit next : ℕ) → take i ≡ Taken bit next → bit ≢ 1 → left ≡ 0 → code left v i ≡ TooLong next
  unfolding code_from on_bit
  code-too-long left v i bit next e other none = rw (none, e, ne_eqb bit 1 other)

  -- the data bit is missing
  pub code-cut : (left v i bit next : ℕ) → take i ≡ Taken bit next → bit ≢ 1 → left ≢ 0 → take next ≡ Absent → code left v i ≡ Missing next
  unfolding code_from on_bit
  code-cut zero v i bit next e other some cut = absurd (some refl)
  code-cut (suc left) v i bit next e other some cut = rw (e, ne_eqb bit 1 other, cut)

  -- a data bit, and the rest of the code
  pub code-goes-on : (left v i bit next d after : ℕ) → take i ≡ Taken bit next → bit ≢ 1 → left ≢ 0 → take next ≡ Taken d after →
      code left v i ≡ code (left - 1) (2 * v + d) after
  unfolding code_from on_bit
  code-goes-on zero v i bit next d after e other some more = absurd (some refl)
  code-goes-on (suc left) v i bit next d after e other some more =
      let less : suc left - 1 ≡ left = omega arith in
      rw (e, ne_eqb bit 1 other, more, less)

  -- what is no number has no sign
  pub sign-refused : (number : Number) → ((size : ℕ) (minus : Bool) (next : ℕ) → number ≡ Read size minus next → ⊥) →
      with_sign_bit bytes end stated number ≡ number
  unfolding with_sign_bit
  sign-refused (Read size minus next) none = absurd (none size minus next refl)
  sign-refused (Missing next) none = refl
  sign-refused (TooLong next) none = refl

  -- the sign of a number that was read
  pub sign-none : (number : Number) (size : ℕ) (minus : Bool) (next : ℕ) → number ≡ Read size minus next → size ≡ 0 →
      with_sign_bit bytes end stated number ≡ Read 0 false next
  unfolding with_sign_bit
  sign-none number size minus next e none = rw (e, none)

  pub sign-missing : (number : Number) (size : ℕ) (minus : Bool) (next : ℕ) → number ≡ Read size minus next → size ≢ 0 → take next ≡ Absent →
      with_sign_bit bytes end stated number ≡ Missing next
  unfolding with_sign_bit on_bit
  sign-missing number size minus next e some cut = rw (e, ne_eqb size 0 some, cut)

  pub sign_read : (number : Number) (size : ℕ) (minus : Bool) (next bit after : ℕ) → number ≡ Read size minus next → size ≢ 0 →
      take next ≡ Taken bit after → with_sign_bit bytes end stated number ≡ Read size (eqb bit 1) after
  unfolding with_sign_bit on_bit
  sign_read number size minus next bit after e some more = rw (e, ne_eqb size 0 some, more)

-- the value stays below a power of two that grows with the data bits, those read and those left
pub value_doubled : (v d k : ℕ) → d ≤ 1 → v < 2 ^ (k + 1) → 2 * v + d < 2 ^ (k + 1 + 1)
value_doubled v d k bit below = rw (pow-add 2 (k + 1) 1) (omega arith)

pub value_grows : (v d left : ℕ) → left ≤ 31 → left ≢ 0 → d ≤ 1 → v < 2 ^ (32 - left) → 2 * v + d < 2 ^ (32 - (left - 1))
value_grows v d left small some bit below =
    let now : 32 - left ≡ 31 - left + 1 = omega arith in
    let up : 32 - (left - 1) ≡ 31 - left + 1 + 1 = omega arith in
    rw up (value_doubled v d (31 - left) bit (rw now at below))
