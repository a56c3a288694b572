-- `filters::table::filter_of` meets its contract: the filter that the table lists is document 01's, and so are the records of its steps.
use mathlib.Core.Path.{refl}
use Rattle.filters.proofs.TableLaws.{same-filter, well_formed}
use Rattle.filters.proofs.table.filter_of.Goals as goal

pub steps_from-steps-requires : goal.steps_from-steps-requires
steps_from-steps-requires c =
    let listed = c.table_filters-table.ensures.each c.args.wavelet _ c.requires in
    (listed.some, listed.few, listed.inside)

pub returns : goal.returns
returns c =
    let listed = c.table_filters-table.ensures.each c.args.wavelet _ c.requires in
    let steps = c.steps_from-steps.ensures in
    (same-filter _ c.requires _ listed _ refl refl steps.0 steps.1, well_formed _ c.requires _ listed _ refl refl steps.0 steps.1)
