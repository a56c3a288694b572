-- `slices::areas::indices_fit` meets its contract: the index of every subband is looked at.
use Rattle.std.proofs.Common.{ℕ, ◌<◌, ◌≤◌, rules, ◌↔◌, IsTrue}
use Rattle.std.proofs.iter.runs.Sources.{ranges}
use Rattle.slices.specs.Areas.{subband_index, indices_fit}
use Rattle.slices.proofs.AreasLaws.{all-most}
use Rattle.slices.proofs.areas.indices_fit.Goals as goal

pub returns : goal.returns
unfolding indices_fit subband_index
returns c =
    let each : IsTrue c.all.result ↔ ((k : ℕ) → k < c.subband_count-count.result → subband_index c.args.p c.args.index k ≤ 115) = search (rules, ranges) in
    rw (← c.subband_count-count.ensures) (all-most _ _ _ _ each)
