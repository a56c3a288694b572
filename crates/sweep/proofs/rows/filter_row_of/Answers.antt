-- `sweep::rows::filter_row_of` meets its contract: a row of a frame lies in the plane, and what is kept of it in the samples.
use mathlib.Core.Path.{refl, ◌∙◌}
use Rattle.lifting.proofs.LayoutLaws.{row_inside}
use Rattle.sweep.proofs.RowsLaws.{cropped}
use Rattle.sweep.proofs.rows.filter_row_of.Goals as goal

pub filter_row-requires : goal.filter_row-requires
filter_row-requires c =
    let placed = c.requires.1.0 in
    (c.requires.0, (placed.columns_least, placed.columns_most, row_inside c.args.level.frame c.args.work.now c.args.work.now placed refl c.args.row c.requires.1.1))

pub finish_row-requires-clause-well_formed : goal.finish_row-requires-clause-well_formed
finish_row-requires-clause-well_formed c =
    let placed = c.requires.1.0 in
    (c.requires.0, (placed.columns_least, placed.columns_most, row_inside c.args.level.frame c.args.work.now c.args.work.now placed refl c.args.row c.requires.1.1))

pub returns-clause-finished : goal.returns-clause-finished
returns-clause-finished c went =
    rw c.in-Some.is
    (c.finish_row.ensures.done went
    ∙ cropped c.in-Some.crop c.args.row c.kept_columns-count.result _ c.args.samples.now c.kept_columns-count.ensures.inside c.kept_columns-count.ensures.below)
