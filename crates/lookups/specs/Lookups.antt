-- The code's own forms: what a table describes of eight bits. No definition of the format rests on them.
use Rattle.std.specs.Prelude.{ℕ, ◌+◌, ◌/◌, ◌%◌, ◌≤◌, ◌<◌, ◌≡◌, ◌≢◌, false, List, [], ◌∷◌, eqb, get_or}
use Rattle.exp_golomb.specs.Bits.{bit_at}
use Rattle.exp_golomb.specs.Codes.{Read, Missing, signed}
use Rattle.lookups.specs.declared.Lookup.{Lookup}

-- A lookup is right of eight bits, taken as data of their own: ones start them, as many as the zeros; then there is no value, as
-- the next code does not end in the eight; or there is one, not 0, whose code ends where the lookup does.
pub record Describes (c : ℕ) (s : Lookup) : Type 0 where
  pub zeros_most : s.zeros ≤ 8
  pub bits_most : s.bits ≤ 8
  pub value_most : s.value < 30
  pub ones : (j : ℕ) → j < s.zeros → bit_at (c ∷ []) j ≡ 1
  pub none : s.count ≡ s.zeros → (s.value ≡ 0) × (s.bits ≡ s.zeros) × (signed (c ∷ []) 8 false s.zeros ≡ Missing 8)
  pub some : s.count ≢ s.zeros → (s.count ≡ s.zeros + 1) × (signed (c ∷ []) 8 false s.zeros ≡ Read (s.value / 2) (eqb (s.value % 2) 1) s.bits) × (s.value / 2 ≢ 0)

-- The lookup of a table's entry.
unfoldable pub lookup_of : ℕ → Lookup
lookup_of entry = record { zeros = entry / 16 % 16; count = entry / 16 % 16 + entry / 256 % 2; value = entry / 512; bits = entry % 16 }

-- A table is right of any eight bits.
pub record KnowsCodes (table : List ℕ) : Type 0 where
  pub each : (c : ℕ) → c < 256 → Describes c (lookup_of (get_or table c 0))
