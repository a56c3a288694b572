-- The code's own forms: what values are read into, and from where. No definition of the format rests on them.
use Rattle.std.specs.Prelude.{ℕ, ◌+◌, ◌*◌, ◌≤◌, ◌<◌, ◌^◌, ◌≡◌, true, Result, Ok, List, ℤ, pos, length, get_or}
use Rattle.base.specs.declared.status.Fault.{Fault}
use Rattle.coefficients.specs.declared.reading.Cursor.{Cursor}
use Rattle.coefficients.specs.declared.values.Layout.{Layout}
use Rattle.runs.specs.declared.Span.{Span}

-- n values side by side, from the first entry on.
abbrev pub side_by_side : ℕ → Layout
side_by_side n = record { start = 0; count = n; reciprocal = 0; gap = 0 }

-- A run has n entries or more, and the first n hold zeros.
pub record Fresh (n : ℕ) (run : List ℤ) : Type 0 where
  pub few : n ≤ 16777216
  pub room : n ≤ length run
  pub zeros : (k : ℕ) → k < n → get_or run k (pos 0) ≡ pos 0

-- A span stands no later than where it ends, and all its bits can be counted.
pub record SoundSpan (s : Span) : Type 0 where
  pub before_end : s.bit ≤ s.end
  pub small : s.origin + s.end < 2 ^ 63

-- A cursor stands before the end of data of a stated length, whose bits are all there and can be counted.
pub record Inside (bytes : List ℕ) (c : Cursor) : Type 0 where
  pub is_stated : c.stated ≡ true
  pub before_end : c.bit < c.end
  pub there : c.end ≤ 8 * length bytes
  pub small : c.origin + c.end < 2 ^ 63

-- Where reading goes on, it does so no later than where the data end.
abbrev pub BeforeEnd : ℕ → Result ℕ Fault → Type 0
BeforeEnd end r = (next : ℕ) → r ≡ Ok next → next ≤ end
