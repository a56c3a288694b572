use mathlib.Core.Path.{◌∙◌}
use native.Mathlib.Omega.{arith}
use lib.ListN.{length-set}
use Rattle.slices.proofs.BoundsLaws.{small-more}
use Rattle.slices.proofs.tables.fill_small_table.Goals as goal

pub loop-index-preserved : goal.loop-index-preserved
loop-index-preserved c =
    (omega arith, length-set c.loop-index.table c.loop-index.index c.small_values.result ∙ c.loop-index.invariant.1, small-more _ c.loop-index.index c.loop-index.table c.small_values.result c.quantiser_of.result (omega (arith, c.loop-index.invariant.1)) c.loop-index.invariant.2 c.quantiser_of.ensures c.small_values.ensures)
