-- `contents::table::entry_count` meets its contract: a right table states at least one entry.
use mathlib.Core.Path.{sym, ◌∙◌}
use native.Mathlib.Omega.{arith}
use Rattle.contents.proofs.CountsLaws.{nonzero-some}
use Rattle.contents.proofs.TableLaws.{right, count-right}
use Rattle.contents.proofs.table.entry_count.Goals as goal

pub returns-then-table_is_right : goal.returns-then-table_is_right
returns-then-table_is_right c =
    let fine = sym c.table_is_right.ensures ∙ c.if-table_is_right.true in
    let count = c.stated_count.ensures ∙ sym (count-right c.args.file.now fine) in
    rw (← count) (nonzero-some c.stated_count.result (omega (arith, c.stated_count.ensures, (right c.args.file.now fine).count-least)))
