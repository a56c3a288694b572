-- Request Four: the luma bit length stands "in as many bits as the least n with 2^n ≥ 8·bytes − 7". `length_bits` is that n.
-- Assumes nothing.
use mathlib.Core.Path.{◌≡◌, refl}
use mathlib.Core.Bool.{Bool, true, false, cond}
use Prim.Native.Nat.{ℕ, zero, suc, ◌+◌, ◌-◌, ◌*◌, ◌^◌, ◌≤◌, ◌<◌}
use native.Mathlib.Nat.{zero-add, add-zero, pow-suc}
use native.Mathlib.Decide.{dec_lt, ℕ_discrete}
use native.Mathlib.Omega.{arith}
use lib.Dec.{leb}
use borrow.Author.Tests.{leb-true, leb-false}
use Rattle.low_delay.specs.Slices.{least_power, length_bits}

-- The least n with 2^n ≥ m.
pub record LeastBits (m n : ℕ) : Type 0 where
  pub enough : m ≤ 2 ^ n
  pub least : (k : ℕ) → m ≤ 2 ^ k → n ≤ k

-- the theorem, which `length-bits` proves: a slice of so many bytes has "the least n with 2^n ≥ 8·bytes − 7"
abbrev pub LengthBitsLeast : Type 0
LengthBitsLeast = (size : ℕ) → LeastBits (8 * size - 7) (length_bits size)

-- n is the least, if it is enough and no number before it is
least-here : (m n : ℕ) → m ≤ 2 ^ n → ((k : ℕ) → k < n → 2 ^ k < m) → LeastBits m n
least-here m n enough before =
    record {
      enough = enough;
      least = λ k this.
          elim (dec_lt k n) [
            | yes earlier ↦ absurd (omega (arith, before k earlier))
            | no later ↦ omega arith
          ];
    }

-- the search from n on finds it, if it is among so many and no number before n is enough
search-least : (more n m : ℕ) → m ≤ 2 ^ (n + more) → ((k : ℕ) → k < n → 2 ^ k < m) → LeastBits m (least_power more n m)
unfolding least_power
search-least zero n m found before = least-here m n (rw (add-zero n) at found) before
search-least (suc more) n m found before =
    by (leb m (2 ^ n)) refl
    (λ past.
    let next : n + suc more ≡ suc n + more = omega arith in
    search-least more (suc n) m (rw next at found)
    (λ k below.
    elim (ℕ_discrete k n) [
      | yes here ↦ rw here (leb-false m (2 ^ n) past)
      | no other ↦ before k (omega arith)
    ]))
  where
    by : (test : Bool) → leb m (2 ^ n) ≡ test → (leb m (2 ^ n) ≡ false → LeastBits m (least_power more (suc n) m)) →
        LeastBits m (cond test n (least_power more (suc n) m))
    by true e later = least-here m n (leb-true m (2 ^ n) e) before
    by false e later = later e

-- a power of 2 is above its exponent
pub power-above : (n : ℕ) → n < 2 ^ n
power-above zero = omega arith
power-above (suc n) = omega (arith, power-above n, pow-suc 2 n)

pub length-bits : LengthBitsLeast
unfolding length_bits
length-bits size =
    search-least (8 * size - 7) 0 (8 * size - 7) (rw (zero-add (8 * size - 7)) (omega (arith, power-above (8 * size - 7)))) (λ k below. absurd (omega arith))
