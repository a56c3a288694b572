-- `low_delay::checks::matrix_in_range` meets its contract: the entry of every subband is looked at.
use Rattle.std.proofs.Common.{◌≡◌, ℕ, ◌<◌, ◌≤◌, Bool, List, rules, ◌↔◌, IsTrue, get_or, length, take, EachIndex, slice_index}
use Rattle.std.proofs.lemmas.List.{get_or-take}
use lib.Dec.{leb}
use Rattle.base.specs.Every.{all_below}
use Rattle.slices.proofs.AreasLaws.{all-most}
use Rattle.low_delay.specs.Job.{matrix_in_range}
use Rattle.low_delay.proofs.checks.matrix_in_range.Goals as goal

-- a test of the first n entries of a list, from one of those taken
all-taken : (l : List ℕ) (n most : ℕ) (b : Bool) → length (take n l) ≡ n → (IsTrue b ↔ EachIndex (take n l) (λ k. slice_index (take n l) k ≤ most)) → b ≡ all_below n (λ k. leb (get_or l k 0) most)
all-taken l n most b long each =
    all-most (λ k. get_or l k 0) n most b (
      (λ yes k h. rw (get_or-take n l k 0 h) at (each.0 yes k (rw long h))),
      (λ all. each.1 (λ k h. let below : k < n = rw long at h in rw (get_or-take n l k 0 below) (all k below))),
    )

pub returns : goal.returns
unfolding matrix_in_range
returns c =
    let long : length (take c.subband_count-count.result c.args.p.matrix) ≡ c.subband_count-count.result = search rules in
    let each : IsTrue c.all.result ↔ EachIndex (take c.subband_count-count.result c.args.p.matrix) (λ k. slice_index (take c.subband_count-count.result c.args.p.matrix) k ≤ 127) = search rules in
    rw (← c.subband_count-count.ensures) (all-taken _ _ _ _ long each)
