-- Document 01, "Number codes": unsigned and signed numbers, in interleaved exp-Golomb codes.
use Rattle.std.specs.Prelude.{ℕ, zero, suc, ◌+◌, ◌-◌, ◌*◌, Bool, false, cond, List, Result, Ok, Err, eqb}
use Rattle.base.specs.declared.status.Fault.{Fault}
use Rattle.base.specs.declared.status.Refusal.TheVariants.{BytesEndEarly, CodeTooLong}
use Rattle.exp_golomb.specs.Bits.{Bit, Taken, Absent, take_bit}
use Rattle.exp_golomb.specs.declared.bits.TakenBit.{TakenBit}
use Rattle.exp_golomb.specs.declared.codes.ReadNumber.{ReadNumber}

-- What reading a number finds: its size, and whether it is below 0; or that a bit is missing, or the code too long. `next` is the bit after
-- those taken.
pub data Number : Type 0 where
  Read : (size : ℕ) (minus : Bool) (next : ℕ) → Number
  Missing : (next : ℕ) → Number
  TooLong : (next : ℕ) → Number

-- The same, as the code says it.
abbrev pub result_of : Number → Result ReadNumber Fault
result_of (Read size minus next) = Ok (record { size = size; minus = minus; next = next })
result_of (Missing next) = Err (record { refusal = BytesEndEarly; bit = next })
result_of (TooLong next) = Err (record { refusal = CodeTooLong; bit = next })

-- Bit i as the code says it, where a number needs one.
abbrev pub needed : Bit → ℕ → Result TakenBit Fault
needed (Taken bit next) i = Ok (record { bit = bit; next = next })
needed Absent i = Err (record { refusal = BytesEndEarly; bit = i })

-- "A bit missing from the bytes gives 6", "a 0 read after the 31st gives refusal 7": the number of each answer.
abbrev pub status_of : Number → ℕ
status_of (Read size minus next) = 0
status_of (Missing next) = 6
status_of (TooLong next) = 7

-- The bit after those taken: for a missing bit all bits that were there, for a code that is too long up to and including the last 0.
abbrev pub next_of : Number → ℕ
next_of (Read size minus next) = next
next_of (Missing next) = next
next_of (TooLong next) = next

-- What follows a bit taken at bit i, or the refusal where it is missing.
unfoldable pub on_bit : Bit → ℕ → (ℕ → ℕ → Number) → Number
on_bit (Taken bit next) i go = go bit next
on_bit Absent i go = Missing i

module _ (bytes : List ℕ) (end : ℕ) (stated : Bool) where
  -- "Read a bit: 1 ends, the number is v − 1. On 0, read a data bit d and set v = 2v + d. At most 31 data bits; a 0 read after the 31st
  -- gives refusal 7." The first argument is how many data bits may still be read.
  unfoldable pub code_from : ℕ → ℕ → ℕ → Number
  code_from zero v i =
      on_bit (take_bit bytes end stated i) i (λ bit next. cond (eqb bit 1) (Read (v - 1) false next) (TooLong next))
  code_from (suc left) v i =
      on_bit (take_bit bytes end stated i) i
      (λ bit next.
      cond (eqb bit 1) (Read (v - 1) false next)
      (on_bit (take_bit bytes end stated next) next (λ d after. code_from left (2 * v + d) after)))

  -- "Start with v = 1."
  unfoldable pub unsigned : ℕ → Number
  unsigned i = code_from 31 1 i

  -- "A signed number is a number, then, if it isn't 0, a sign bit, 1 for minus."
  unfoldable pub with_sign_bit : Number → Number
  with_sign_bit (Read size minus next) =
      cond (eqb size 0) (Read size false next)
      (on_bit (take_bit bytes end stated next) next (λ bit after. Read size (eqb bit 1) after))
  with_sign_bit (Missing next) = Missing next
  with_sign_bit (TooLong next) = TooLong next

  unfoldable pub signed : ℕ → Number
  signed i = with_sign_bit (unsigned i)
