-- The code's own forms: values that are read as far as the data at hand go. No definition of the format rests on them.
use Rattle.std.specs.Prelude.{ℕ, ◌+◌, ◌*◌, ◌≤◌, ◌<◌, ◌^◌, min, ◌≡◌, true, false, Result, Ok, Err, List, ℤ, length}
use Rattle.base.specs.declared.status.Fault.{Fault}
use Rattle.base.specs.declared.status.Refusal.TheVariants.{CodeTooLong}
use Rattle.exp_golomb.specs.Begins.{Begins}
use Rattle.exp_golomb.specs.Codes.{Number, Read, Missing, TooLong}
use Rattle.coefficients.specs.Reading.{goes_on}
use Rattle.coefficients.specs.Values.{after, entries}
use Rattle.coefficients.specs.declared.reading.Cursor.{Cursor}
use Rattle.coefficients.specs.declared.reading.Portion.{Portion}

-- A cursor stands no later than where its data end, and all their bits can be counted.
pub record Sound (c : Cursor) : Type 0 where
  pub before_end : c.bit ≤ c.end
  pub small : c.origin + c.end < 2 ^ 63

-- Reading goes on less than 64 bits before the end of the data.
abbrev pub CloseToEnd : List ℕ → ℕ → Result ℕ Fault → Type 0
CloseToEnd bytes end (Ok next) = min end (8 * length bytes) ≤ next + 63
CloseToEnd bytes end (Err fault) = ⊥

-- What follows where no number was read: its refusal, or, where a bit is missing, that it is not all there.
unfoldable pub not_read : Number → Cursor → Portion
not_read (Read size minus next) c = record { count = 0; progress = Ok c.bit; short = true }
not_read (Missing next) c = record { count = 0; progress = Ok c.bit; short = true }
not_read (TooLong next) c = record { count = 1; progress = Err (record { refusal = CodeTooLong; bit = c.origin + next }); short = false }

-- Values from value i on were read into a plane, as many as the portion counts (one that is refused counts), whatever data begin with those
-- at hand.
pub record Reads (bytes : List ℕ) (c : Cursor) (scale index : ℕ → ℕ) (i : ℕ) (plane : List ℤ) (r : Portion) (last : List ℤ) : Type 0 where
  pub values : (whole : List ℕ) (end : ℕ) → Begins c.stated bytes c.end whole end →
      entries whole end c.origin scale index i r.count (goes_on c.bit plane) ≡ after r.progress last
  pub before_end : (next : ℕ) → r.progress ≡ Ok next → next ≤ c.end
  pub close_to_end : r.short ≡ true → CloseToEnd bytes c.end r.progress
  pub full : c.stated ≡ true → r.short ≡ false

-- Where reading goes on and was not short of bits, so many values were read.
abbrev pub AllRead : ℕ → Portion → Type 0
AllRead n r = (next : ℕ) → r.progress ≡ Ok next → r.short ≡ false → r.count ≡ n
