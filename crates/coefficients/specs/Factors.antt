-- The code's own form: a table of factors. No definition of the format rests on it.
use Rattle.std.specs.Prelude.{ℕ, ◌≤◌, ◌≡◌, List, get_or}
use Rattle.coefficients.specs.Quantiser.{quant_factor}

-- Document 02, request Two: "each table entry has to be the formula's number".
pub record KnowsFactors (table : List ℕ) : Type 0 where
  pub each : (q : ℕ) → q ≤ 115 → get_or table q 0 ≡ quant_factor q
