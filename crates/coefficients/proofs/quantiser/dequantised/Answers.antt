-- `coefficients::quantiser::dequantised` meets its contract: the factor and the offset have 31 bits, so the sum fits 64 bits and its quarter 63.
use mathlib.Core.Path.{sym}
use native.Mathlib.Omega.{arith}
use Prim.Native.Nat.{◌-◌, ◌*◌, ◌^◌, ◌≤◌}
use Rattle.coefficients.proofs.ScalingLaws.{product-most, scaled-zero, scaled-some}
use Rattle.coefficients.proofs.quantiser.dequantised.Goals as goal
use Rattle.coefficients.proofs.quantiser.dequantised.Goals.{Start}

pub returns-then-size-eq0 : goal.returns-then-size-eq0
returns-then-size-eq0 c = (sym (scaled-zero _ _ _ c.if-size-eq0.true), omega arith)

-- the product is small
product : (c : Start) → c.args.size * c.args.q.factor ≤ (2 ^ 32 - 1) * (2 ^ 31 - 1)
product c = product-most c.args.size c.args.q.factor (omega arith) c.args.q.factor_small

pub returns : goal.returns
returns c =
    rw c.from.ensures
    (sym (scaled-some _ _ _ c.if-size-eq0.false), omega (arith, product (goal.at.returns c).Start, c.args.q.offset_small))
