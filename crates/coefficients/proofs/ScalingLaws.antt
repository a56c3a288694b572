-- Laws of scaling by a factor and an offset: its cases and its bound, that it grows with the size, and that the small values fit.
-- Assumes nothing.
use mathlib.Core.Path.{◌≡◌}
use mathlib.Core.Logic.{◌≢◌}
use mathlib.Core.Bool.{Bool, true, false}
use Prim.Native.Nat.{ℕ, ◌+◌, ◌-◌, ◌*◌, ◌/◌, ◌%◌, ◌^◌, ◌≤◌, ◌<◌}
use native.Mathlib.Nat.{mul-le-mul, le_refl}
use native.Mathlib.Decide.{ℕ_discrete}
use native.Mathlib.Omega.{arith}
use borrow.Author.Tests.{ne_eqb, ltb-true}
use lib.Dec.{eqb}
use lib.IntN.{pos, neg_ℤ}
use Rattle.base.specs.Range.{fits32}
use Rattle.base.specs.Sign.{with_sign}
use Rattle.base.proofs.RangeLaws.{below-fits32}
use Rattle.base.proofs.Integers.{mag-minus}
use Rattle.coefficients.specs.Quantiser.{scaled}
use Rattle.coefficients.specs.Scaling.{scale_of, small_fit, small_value}
use Rattle.coefficients.specs.declared.reading.Quantiser.{Quantiser}

-- the product of a size of 32 bits and a factor of 31
pub product-most : (m factor : ℕ) → m < 2 ^ 32 → factor < 2 ^ 31 → m * factor ≤ (2 ^ 32 - 1) * (2 ^ 31 - 1)
product-most m factor small below =
    let left : m ≤ 2 ^ 32 - 1 = omega arith in
    let right : factor ≤ 2 ^ 31 - 1 = omega arith in
    mul-le-mul left right

-- 0 stays 0, and another size is scaled
pub scaled-zero : (factor offset m : ℕ) → m ≡ 0 → scaled factor offset m ≡ 0
unfolding scaled
scaled-zero factor offset m e = rw e

pub scaled-some : (factor offset m : ℕ) → m ≢ 0 → scaled factor offset m ≡ (m * factor + offset + 2) / 4
unfolding scaled
scaled-some factor offset m some = rw (ne_eqb m 0 some)

-- a larger size becomes no less
pub scaled-grows : (factor offset m n : ℕ) → m ≤ n → scaled factor offset m ≤ scaled factor offset n
scaled-grows factor offset m n most =
    elim (ℕ_discrete m 0) [
      | yes none ↦ rw (scaled-zero factor offset m none) (omega arith)
      | no some ↦
          let more : n ≢ 0 = λ e. some (omega arith) in
          let product : m * factor ≤ n * factor = mul-le-mul most (le_refl factor) in
          rw (scaled-some factor offset m some, scaled-some factor offset n more) (omega arith)
    ]

-- a size below 2^31 fits a plane with either sign
pub sign_fits : (n : ℕ) (minus : Bool) → n < 2 ^ 31 → fits32 (with_sign n minus) ≡ true
unfolding with_sign
sign_fits n true h = below-fits32 (neg_ℤ (pos n)) (mag-minus n (2 ^ 31) h)
sign_fits n false h = below-fits32 (pos n) h

-- where size 14 fits a plane, each small value does
pub small-fits : (q : Quantiser) → small_fit q ≡ true → (k : ℕ) → k < 30 → fits32 (small_value (scale_of q) k) ≡ true
unfolding small_fit small_value
small-fits q fit k few =
    let grows : scale_of q (k / 2) ≤ scale_of q 14 = scaled-grows q.factor q.offset (k / 2) 14 (omega arith) in
    sign_fits (scale_of q (k / 2)) (eqb (k % 2) 1) (omega (arith, ltb-true (scale_of q 14) (2 ^ 31) fit))
