-- Document 01, "Number codes": a whole number from its size and its sign.
use Rattle.std.specs.Prelude.{ℕ, Bool, cond, ℤ, pos, neg_ℤ}

-- "1 for minus"
unfoldable pub with_sign : ℕ → Bool → ℤ
with_sign size minus = cond minus (neg_ℤ (pos size)) (pos size)
