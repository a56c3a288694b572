-- `lifting::columns::target_row` meets its contract: the pair's even row, or its odd one.
use native.Mathlib.Omega.{arith}
use Rattle.filters.specs.Pictures.{target_row}
use Rattle.lifting.proofs.columns.target_row.Goals as goal

pub returns-then-even : goal.returns-then-even
unfolding target_row
returns-then-even c = rw c.if-even.true (omega arith)

pub returns-else-even : goal.returns-else-even
unfolding target_row
returns-else-even c = rw c.if-even.false
