-- The code's own form: data at hand, and data that begin with them. No definition of the format rests on it.
use Rattle.std.specs.Prelude.{ℕ, ◌*◌, ◌≤◌, ◌<◌, min, ◌≡◌, Bool, true, List, length}
use Rattle.exp_golomb.specs.Bits.{bit_at}

-- The bits of data a are the first bits of data b; and all of them, where they are data of a stated length.
pub record Begins (stated : Bool) (a : List ℕ) (end_a : ℕ) (b : List ℕ) (end_b : ℕ) : Type 0 where
  pub there : (k : ℕ) → k < min end_a (8 * length a) → k < min end_b (8 * length b)
  pub same : (k : ℕ) → k < min end_a (8 * length a) → bit_at b k ≡ bit_at a k
  pub whole : stated ≡ true → min end_b (8 * length b) ≤ min end_a (8 * length a)
