-- `coefficients::values::read_few` meets its contract: ones are zeros, and lookups read what the bits begin with.
use native.Mathlib.Omega.{arith}
use Rattle.coefficients.proofs.BatchesLaws.{zeros-at-once}
use Rattle.coefficients.proofs.values.read_few.Goals as goal

pub returns-then-starts_with_ones : goal.returns-then-starts_with_ones
returns-then-starts_with_ones g c =
    zeros-at-once _ _ _ _ _ c.requires.1 _ _ (omega (arith, c.if-left-lt32.true)) (omega (arith, c.requires.0)) c.starts_with_ones.ensures c.if-starts_with_ones.true

pub returns-then-starts_with_ones-2 : goal.returns-then-starts_with_ones-2
returns-then-starts_with_ones-2 g c =
    zeros-at-once _ _ _ _ _ c.requires.1 32 _ (omega arith) (omega (arith, c.requires.0, c.if-left-lt32.false)) c.starts_with_ones-else-left-lt32.ensures c.if-starts_with_ones-2.true
