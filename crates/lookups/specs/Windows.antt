-- The code's own forms: the next bits of data as one number. No definition of the format rests on them.
use Rattle.std.specs.Prelude.{ℕ, ◌+◌, ◌-◌, ◌*◌, ◌/◌, ◌%◌, ◌^◌, ◌≤◌, ◌<◌, min, ◌≡◌, Bool, ◌&&◌, List, leb, ltb, length}
use Rattle.exp_golomb.specs.Bits.{bits_from}

-- The 56 bits from a bit on are there, and so are eight bytes from its own on.
pub record WindowThere (bytes : List ℕ) (end at : ℕ) : Type 0 where
  pub before_end : at + 56 ≤ end
  pub eight_bytes : at / 8 + 7 < length bytes

-- Whether they are there.
unfoldable pub is_window : List ℕ → ℕ → ℕ → Bool
is_window bytes end at = leb (at + 56) end && ltb (at / 8 + 7) (length bytes)

-- The 64 bits of eight bytes, from the byte that has bit `at` on, with those before this bit shifted out at the top.
unfoldable pub window_of : List ℕ → ℕ → ℕ
window_of bytes at = bits_from bytes (8 * (at / 8)) 64 * 2 ^ (at % 8) % 2 ^ 64

-- The n bits at the top of w, a number of 64, are those from bit i on, which are there.
pub record Ahead (bytes : List ℕ) (end w i n : ℕ) : Type 0 where
  pub few : n ≤ 64
  pub top : w / 2 ^ (64 - n) ≡ bits_from bytes i n
  pub inside : i + n ≤ min end (8 * length bytes)
