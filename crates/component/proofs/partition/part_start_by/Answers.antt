-- `component::partition::part_start_by` meets its contract: the product is small enough for the reciprocal to divide by the count.
use mathlib.Core.Path.{ap, ◌∙◌}
use Prim.Native.Nat.{ℕ, ◌*◌, ◌/◌, ◌≤◌}
use native.Mathlib.Nat.{mul-le-mul}
use native.Mathlib.Omega.{arith}
use Rattle.base.proofs.Reciprocals.{reciprocal-divides}
use Rattle.component.specs.Partition.{part_start}
use Rattle.component.specs.Reciprocal.{reciprocal_of}
use Rattle.component.proofs.partition.part_start_by.Goals as goal
use Rattle.component.proofs.partition.part_start_by.Goals.{Start}

small : (c : Start) → c.args.size * c.args.x ≤ 4096 * 256
small c = mul-le-mul c.requires.0 c.requires.2

pub overflow_mul-result : goal.overflow_mul-result
overflow_mul-result c = omega (arith, small (goal.at.overflow_mul-result c).Start)

pub overflow_mul-result-2 : goal.overflow_mul-result-2
overflow_mul-result-2 c = omega (arith, mul-le-mul (small (goal.at.overflow_mul-result-2 c).Start) c.requires.1)

pub returns : goal.returns
unfolding part_start reciprocal_of
returns c count some few is =
    let n = c.args.size * c.args.x in
    let fits : n * count ≤ 4096 * 256 * 255 = mul-le-mul (small (goal.at.returns c).Start) few in
    ap (λ (r : ℕ). n * r / 4294967296) is ∙ reciprocal-divides 4294967296 count n some (omega arith)
