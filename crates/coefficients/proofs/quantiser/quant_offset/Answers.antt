-- `coefficients::quantiser::quant_offset` meets its contract: indices 0 and 1 have one offset for both kinds of picture, and the factor at hand is
-- the index's.
use mathlib.Core.Path.{◌≡◌, sym}
use mathlib.Core.Bool.{cond}
use Prim.Native.Nat.{◌*◌, ◌^◌, ◌<◌}
use native.Mathlib.Omega.{arith}
use Rattle.coefficients.proofs.QuantiserLaws.{eighths-below, offset-at-0, offset-at-1, offset-from-2}
use Rattle.coefficients.proofs.quantiser.quant_offset.Goals as goal
use Rattle.coefficients.proofs.quantiser.quant_offset.Goals.{Joined-intra, then-intra, else-intra}

pub returns-then-index-eq0 : goal.returns-then-index-eq0
returns-then-index-eq0 c = rw c.if-index-eq0.true (sym (offset-at-0 _))

pub returns-then-index-eq1 : goal.returns-then-index-eq1
returns-then-index-eq1 c = rw c.if-index-eq1.true (sym (offset-at-1 _))

-- the eighths of the factor, and the product, which has 34 bits
eighths-are : (c : Joined-intra) → c.if-intra.eighths ≡ cond c.args.intra 4 3
eighths-are c = elim c.if-intra.branch [ then-intra w ↦ rw w.if-intra.true w.eighths-is | else-intra w ↦ rw w.if-intra.false w.eighths-is ]

product-below : (c : Joined-intra) → c.if-intra.eighths * c.args.factor < 2 ^ 34
product-below c =
    rw (eighths-are c, c.requires.1) (eighths-below c.args.intra c.args.index c.requires.0)

pub overflow_mul-result : goal.overflow_mul-result
overflow_mul-result c = omega (arith, product-below (goal.at.overflow_mul-result c).Joined-intra)

pub overflow_add-result : goal.overflow_add-result
overflow_add-result c = omega (arith, product-below (goal.at.overflow_add-result c).Joined-intra)

pub returns : goal.returns
returns c =
    rw (eighths-are (goal.at.returns c).Joined-intra, c.requires.1) (sym (offset-from-2 c.args.intra c.args.index c.if-index-eq0.false c.if-index-eq1.false))
