-- Document 01, "Number codes": the bits of a list of bytes, and taking one.
-- Bits count from 0 at the first byte's top. Data end at bit `end`, and never after the bytes do; `stated` says that they are block data
-- of a stated length.
use Rattle.std.specs.Prelude.{ℕ, zero, suc, ◌+◌, ◌-◌, ◌*◌, ◌/◌, ◌%◌, ◌^◌, min, Bool, cond, List, Option, Some, None, ltb, length, get_or}
use Rattle.exp_golomb.specs.declared.bits.TakenBit.{TakenBit}

-- What taking a bit finds: the bit, with the next one's position, or nothing.
pub data Bit : Type 0 where
  Taken : (bit next : ℕ) → Bit
  Absent : Bit

-- The same, as the code says it.
abbrev pub bit_of : Option TakenBit → Bit
bit_of (Some t) = Taken t.bit t.next
bit_of None = Absent

-- "Bits are taken from the top of each byte."
unfoldable pub bit_at : List ℕ → ℕ → ℕ
bit_at bytes i = get_or bytes (i / 8) 0 / 2 ^ (7 - i % 8) % 2

-- The n bits from bit i on, as a number, the first at its top.
unfoldable pub bits_from : List ℕ → ℕ → ℕ → ℕ
bits_from bytes i zero = 0
bits_from bytes i (suc n) = 2 * bits_from bytes i n + bit_at bytes (i + n)

-- Whether a bit of the data is there.
unfoldable pub present : List ℕ → ℕ → ℕ → Bool
present bytes end i = ltb i (min end (8 * length bytes))

-- Bit i, with the position of the next one: the bit that is there; or else, "In block data of a stated length, a bit past the length
-- reads as 1 instead", and none is taken.
unfoldable pub take_bit : List ℕ → ℕ → Bool → ℕ → Bit
take_bit bytes end stated i = cond (present bytes end i) (Taken (bit_at bytes i) (i + 1)) (cond stated (Taken 1 i) Absent)
