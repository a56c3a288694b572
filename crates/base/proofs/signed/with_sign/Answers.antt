-- `base::signed::with_sign` meets its contract: the size fits, and so does its opposite.
use lib.IntN.{pos, neg_ℤ}
use mir.Syntax.{w64}
use mir.ValLaws.{to_z_pos}
use Rattle.base.specs.Sign.{with_sign}
use Rattle.base.proofs.RangeLaws.{back}
use Rattle.base.proofs.Integers.{zero-less, mag-minus}
use Rattle.base.proofs.signed.with_sign.Goals as goal

pub overflow_sub-result : goal.overflow_sub-result
overflow_sub-result c =
    let n = c.before.args.size in
    rw (to_z_pos w64 n c.before.requires, zero-less n) (record { sfits = mag-minus n _ c.before.requires })

pub returns-then-minus : goal.returns-then-minus
unfolding with_sign
returns-then-minus c =
    let n = c.before.args.size in
    rw (to_z_pos w64 n c.before.requires, zero-less n, c.if-minus.true) (back w64 (neg_ℤ (pos n)) (mag-minus n _ c.before.requires))

pub returns-else-minus : goal.returns-else-minus
unfolding with_sign
returns-else-minus c = rw c.if-minus.false (to_z_pos w64 c.before.args.size c.before.requires)
