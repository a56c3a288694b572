-- `low_delay::checks::check` meets its contract: the planes are looked at where the picture passed the checks before.
use mathlib.Core.Path.{sym, ◌∙◌}
use Rattle.low_delay.proofs.JobLaws.{checked, counts-pass}
use Rattle.low_delay.proofs.checks.check.Goals as goal

pub planes_fit-requires : goal.planes_fit-requires
planes_fit-requires c =
    checked _ (sym c.sizes_in_range.ensures ∙ c.if-not-sizes_in_range.false) (sym c.in_range.ensures ∙ c.if-not-in_range.false) (counts-pass _ (sym c.slices_in_range.ensures ∙ c.if-not-slices_in_range.false))
