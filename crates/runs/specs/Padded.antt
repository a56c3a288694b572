-- The code's own forms: the next bits of data as one number, with ones for those past the end. No definition of the format rests on them.
use Rattle.std.specs.Prelude.{ℕ, zero, suc, ◌+◌, ◌-◌, ◌*◌, ◌/◌, ◌^◌, ◌≤◌, ◌≡◌, cond, List, length}
use Rattle.exp_golomb.specs.Bits.{bit_at, bits_from, present}

-- A bit that is there, or else 1; and the n of them from bit i on, as a number, the first at its top.
unfoldable pub bit_padded : List ℕ → ℕ → ℕ → ℕ
bit_padded bytes end i = cond (present bytes end i) (bit_at bytes i) 1

unfoldable pub bits_padded : List ℕ → ℕ → ℕ → ℕ → ℕ
bits_padded bytes end i zero = 0
bits_padded bytes end i (suc n) = 2 * bits_padded bytes end i n + bit_padded bytes end (i + n)

-- The bits at the top of w, a number of 64, are those from bit `at` on: 56 of them, or as many as there are.
pub record Shows (bytes : List ℕ) (at w : ℕ) : Type 0 where
  pub top : (n : ℕ) → n ≤ 56 → at + n ≤ 8 * length bytes → w / 2 ^ (64 - n) ≡ bits_from bytes at n
