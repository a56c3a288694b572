-- `lifting::columns::source_row` meets its contract: the pair that is read is clamped to the picture's pairs.
use native.Mathlib.Omega.{arith}
use Rattle.filters.specs.Pictures.{source_row}
use Rattle.lifting.proofs.columns.source_row.Goals as goal

pub returns-then-even : goal.returns-then-even
unfolding source_row
returns-then-even c = rw c.if-even.true (omega arith)

pub returns-else-even : goal.returns-else-even
unfolding source_row
returns-else-even c = rw c.if-even.false (omega arith)
