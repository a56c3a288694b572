-- The code's own forms: the line buffer, the low half of a row from entry 4 on and the high half from entry 2060 on, each with room for 4 entries
-- on either side; and the sizes of numbers that keep sums within 64 bits. No definition of the format rests on them.
use Rattle.std.specs.Prelude.{◌≡◌, ◌≢◌, ℕ, ◌+◌, ◌-◌, ◌*◌, ◌/◌, ◌%◌, ◌≤◌, ◌<◌, min, Bool, cond, List, eqb, ℤ, pos, ◌+ℤ◌, nat_abs, get_or}
use Rattle.base.specs.Fill.{fill}
use Rattle.base.specs.Floor.{floor_div}

-- The first w entries are at most m in size.
abbrev pub Below : List ℤ → ℕ → ℕ → Type 0
Below l w m = (x : ℕ) → x < w → nat_abs (get_or l x (pos 0)) ≤ m

-- The w entries from an index on are at most m in size.
abbrev pub Within : List ℤ → ℕ → ℕ → ℕ → Type 0
Within l start w m = (x : ℕ) → x < w → nat_abs (get_or l (start + x) (pos 0)) ≤ m

-- The first n entries are one, or an even number and the same from both ends.
abbrev pub Symmetric : List ℤ → ℕ → Type 0
Symmetric l n = (n ≢ 1 → n ≡ 2 * (n / 2)) × ((t : ℕ) → t < n → get_or l (n - 1 - t) (pos 0) ≡ get_or l t (pos 0))

-- The index, behind its base in the line buffer, of entry s − 4 of a half of b entries, clamped to 0..b − 1.
unfoldable pub clamped_entry : ℕ → ℕ → ℕ
clamped_entry b s = 4 + min (s - 4) (b - 1)

-- The half of b entries behind a base has its ends repeated four times, and nothing else has changed.
abbrev pub EndsRepeated : ℕ → ℕ → List ℤ → List ℤ → Type 0
EndsRepeated base b before after = (s : ℕ) → s < b + 8 → get_or after (base + s) (pos 0) ≡ get_or before (base + clamped_entry b s) (pos 0)

abbrev pub KeptOutside : ℕ → ℕ → List ℤ → List ℤ → Type 0
KeptOutside base b before after = (p : ℕ) → ((s : ℕ) → s < b + 8 → p ≢ base + s) → get_or after p (pos 0) ≡ get_or before p (pos 0)

-- The row whose even entries are the low half and whose odd entries are the high half.
unfoldable pub interleaved : List ℤ → ℕ → ℤ
interleaved halves x = cond (eqb (x % 2) 0) (get_or halves (4 + x / 2) (pos 0)) (get_or halves (2060 + x / 2) (pos 0))

-- The number halved, a half rounded up, where there is a shift.
unfoldable pub shifted : Bool → ℤ → ℤ
shifted shift v = cond shift (floor_div (v +ℤ pos 1) 2) v

-- Number x of that row, shifted if asked for.
abbrev pub row_number : List ℤ → Bool → ℕ → ℤ
row_number halves shift x = shifted shift (interleaved halves x)

-- The plane with numbers of that row from an index on: the first ones, and those from number `from` on.
abbrev pub with_row : List ℤ → ℕ → ℕ → List ℤ → Bool → List ℤ
with_row plane start count halves shift = fill plane start count (row_number halves shift)

abbrev pub with_row_part : List ℤ → ℕ → ℕ → ℕ → List ℤ → Bool → List ℤ
with_row_part plane start from count halves shift = fill plane start count (λ x. row_number halves shift (from + x))
