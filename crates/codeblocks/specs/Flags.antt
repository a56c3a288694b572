-- The code's own form: a codeblock's flag. No definition of the format rests on it.
use Rattle.std.specs.Prelude.{ℕ, ◌+◌, ◌*◌, ◌≤◌, min, ◌≡◌, ◌≢◌, true, false, Option, None, Some, List, eqb, length}
use Rattle.exp_golomb.specs.Begins.{Begins}
use Rattle.exp_golomb.specs.Bits.{Taken, take_bit}
use Rattle.coefficients.specs.declared.reading.Cursor.{Cursor}
use Rattle.codeblocks.specs.declared.Flag.{Flag}

-- A flag, or none where its bit is missing, whatever data begin with those at hand: where there is one codeblock alone, it takes no bit.
pub record Flagged (count : ℕ) (bytes : List ℕ) (c : Cursor) (r : Option Flag) : Type 0 where
  pub single : count ≡ 1 → r ≡ Some (record { skipped = false; bit = c.bit })
  pub taken : count ≢ 1 → (flag : Flag) → r ≡ Some flag → (whole : List ℕ) (end : ℕ) → Begins c.stated bytes c.end whole end →
      (bit : ℕ) × (take_bit whole end true c.bit ≡ Taken bit flag.bit) × (flag.skipped ≡ eqb bit 1)
  pub before_end : c.bit ≤ c.end → (flag : Flag) → r ≡ Some flag → flag.bit ≤ c.end
  pub close_to_end : r ≡ None → min c.end (8 * length bytes) ≤ c.bit + 63
  pub full : c.stated ≡ true → r ≢ None
