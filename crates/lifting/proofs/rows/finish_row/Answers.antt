-- `lifting::rows::finish_row` meets its contract: what the steps make of the row is interleaved into the samples, and the row is zeroed.
use mathlib.Core.Path.{refl, ◌∙◌}
use Rattle.filters.specs.Table.{filter_from}
use Rattle.lifting.proofs.LayoutLaws.{row-interleaved}
use Rattle.lifting.proofs.rows.finish_row.Goals as goal

pub returns-clause-done : goal.returns-clause-done
returns-clause-done c fits =
    let args = c.args in
    c.interleave.ensures
    ∙ row-interleaved (filter_from args.filter).steps args.filter.shift args.half args.kept.start args.work.now _
    _ refl (c.in_ok-filter_row_halves.ensures.done refl) args.samples.now args.kept.to args.kept.count c.requires.count_bound.0
