-- Document 01, "One subband": its header. Bits are counted from the start of the bytes.
use Rattle.std.specs.Prelude.{ℕ, ◌+◌, ◌*◌, ◌/◌, false, cond, List, Result, Ok, Err, eqb, length}
use Rattle.base.specs.Refusals.{number_of}
use Rattle.base.specs.declared.status.Fault.{Fault}
use Rattle.exp_golomb.specs.Codes.{Number, Read, Missing, TooLong, status_of, next_of, unsigned}
use Rattle.unpack.specs.declared.header.ReadHeader.{ReadHeader}
use Rattle.unpack.specs.declared.header.ReadHeader.TheVariants.{Skipped as ReadSkipped, Coded as ReadCoded}

-- What a header says: there are no data, and reading goes on at a bit; the data's quantiser index, the bit at which they start, and their
-- length in bytes; or no header, with a refusal's number and the bit at which it arose.
pub data Header : Type 0 where
  Skipped : (bit : ℕ) → Header
  Coded : (index bit size : ℕ) → Header
  Refused : (status bit : ℕ) → Header

-- The same, from what the code says: a header that was read, or the fault.
abbrev pub read_as : ReadHeader → Header
read_as (ReadSkipped bit) = Skipped bit
read_as (ReadCoded index bit size) = Coded index bit size

abbrev pub header_of : Result ReadHeader Fault → Header
header_of (Ok header) = read_as header
header_of (Err fault) = Refused (number_of fault.refusal) fault.bit

-- "go to the boundary": the first bit of a byte, at a bit or after it. "Skipped bits may have any value": none is looked at.
unfoldable pub boundary : ℕ → ℕ
boundary bit = (bit + 7) / 8 * 8

-- "Only a number that was read goes on; anything else ends the subband": its number, and the bits that it took
abbrev pub refused_at : Number → Header
refused_at number = Refused (status_of number) (next_of number)

unfoldable pub on_read : Number → (ℕ → ℕ → Header) → Header
on_read (Read size minus next) go = go size next
on_read (Missing next) go = refused_at (Missing next)
on_read (TooLong next) go = refused_at (TooLong next)

-- "Start on a byte boundary. Read the length. If 0, go to the boundary; all values are 0. Otherwise read the quantiser index, go to the
-- boundary"
-- Each starts on one: the first at bit 0, the next where the one before it ends.
unfoldable pub header_at : List ℕ → ℕ → Header
header_at bytes at =
    on_read (unsigned bytes (8 * length bytes) false at)
    (λ size next.
    cond (eqb size 0) (Skipped (boundary next))
    (on_read (unsigned bytes (8 * length bytes) false next) (λ index end. Coded index (boundary end) size)))
