-- A table of factors: where every entry passes a test, which is computed, the table has the factor of each index.
-- Assumes nothing.
use mathlib.Core.Path.{◌≡◌}
use mathlib.Core.Bool.{Bool, true}
use mathlib.Core.List.{List}
use Prim.Native.Nat.{ℕ}
use native.Mathlib.Omega.{arith}
use borrow.Author.Tests.{eqb-true}
use lib.Dec.{eqb}
use lib.ListN.{get_or}
use Rattle.base.specs.Every.{all_below}
use Rattle.base.proofs.EveryLaws.{all-at}
use Rattle.coefficients.specs.Factors.{KnowsFactors}
use Rattle.coefficients.specs.Quantiser.{quant_factor}

-- the test of an entry
unfoldable pub is_factor : List ℕ → ℕ → Bool
is_factor table q = eqb (get_or table q 0) (quant_factor q)

-- Document 02, request Two: "shown once for the whole table"
pub factors-known : (table : List ℕ) → all_below 116 (is_factor table) ≡ true → KnowsFactors table
unfolding is_factor
factors-known table all = record { each = λ q most. eqb-true (get_or table q 0) (quant_factor q) (all-at (is_factor table) 116 q all (omega arith)) }
