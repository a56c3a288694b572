-- `lifting::rows::filter_row` meets its contract: what the steps make of the row in the line buffer is interleaved back.
use mathlib.Core.Path.{refl, ◌∙◌}
use Prim.Native.Nat.{◌*◌}
use native.Mathlib.Omega.{arith}
use Rattle.filters.specs.Table.{filter_from}
use Rattle.lifting.proofs.LayoutLaws.{row-interleaved}
use Rattle.lifting.proofs.rows.filter_row.Goals as goal

pub returns-clause-done : goal.returns-clause-done
returns-clause-done c fits =
    let args = c.args in
    c.interleave.ensures
    ∙ row-interleaved (filter_from args.filter).steps args.filter.shift args.half args.start args.work.now _
    _ refl (c.in_ok-filter_row_halves.ensures.done refl) args.work.now args.start (2 * args.half) (omega arith)
