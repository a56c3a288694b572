-- `exp_golomb::bits::is_present` meets its contract: the two tests are the two ends that data can have.
use mathlib.Core.Path.{sym, ◌∙◌}
use borrow.Author.Tests.{le-ltb}
use Rattle.exp_golomb.proofs.BitsLaws.{present-second, present-past-end}
use Rattle.exp_golomb.proofs.bits.is_present.Goals as goal

pub returns-then-at-end : goal.returns-then-at-end
returns-then-at-end c = present-second _ _ _ c.if-at-end.true

pub returns-else-at-end : goal.returns-else-at-end
returns-else-at-end c = le-ltb _ _ c.if-at-end.false ∙ sym (present-past-end _ _ _ c.if-at-end.false)
