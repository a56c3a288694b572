-- Laws of a table of small values: one index more.
-- Assumes nothing.
use mathlib.Core.Path.{◌≡◌, sym, ap, ◌∙◌, subst}
use mathlib.Core.Bool.{Bool, true}
use mathlib.Core.List.{List, []}
use Prim.Native.Nat.{ℕ, ◌+◌, ◌<◌, ◌^◌}
use native.Mathlib.Decide.{ℕ_discrete}
use native.Mathlib.Omega.{arith}
use lib.Dec.{ltb}
use lib.IntN.{ℤ}
use lib.ListN.{length, set}
use lib.Seq.{get_or-set_same, get_or-set_other}
use Rattle.coefficients.specs.Quantiser.{dequantise}
use Rattle.coefficients.specs.Scaling.{scale_of, small_fit, Small}
use Rattle.coefficients.specs.declared.reading.Quantiser.{Quantiser}
use Rattle.slices.specs.Bounds.{KnowsSmall}

-- what a quantiser makes of small sizes is what every quantiser of the index makes of them
pub small-more : (intra : Bool) (n : ℕ) (table : List (List ℤ)) (small : List ℤ) (q : Quantiser) → n < length table → KnowsSmall intra n table → scale_of q ≡ dequantise intra n →
    (small_fit q ≡ true → Small (scale_of q) small) → KnowsSmall intra (n + 1) (set table n small)
unfolding small_fit
small-more intra n table small q room knows is made =
    record {
      each = λ index below other other-is fit.
          elim (ℕ_discrete index n) [
            | yes here ↦
                let same : scale_of other ≡ scale_of q = other-is ∙ ap (dequantise intra) here ∙ sym is in
                let fits : small_fit q ≡ true = ap (λ (f : ℕ → ℕ). ltb (f 14) (2 ^ 31)) (sym same) ∙ fit in
                rw (here, get_or-set_same table n small [] room) (subst (λ (f : ℕ → ℕ). Small f small) (sym same) (made fits))
            | no elsewhere ↦ rw (get_or-set_other table n index small [] elsewhere) (knows.each index (omega arith) other other-is fit)
          ];
    }
