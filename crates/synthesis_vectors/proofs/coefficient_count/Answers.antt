-- `synthesis_vectors::coefficient_count` meets its contract: an area within the bound has sizes in range, and samples are no more than
-- coefficients.
use mathlib.Core.Path.{◌≡◌, sym, ◌∙◌}
use mathlib.Core.Bool.{true}
use Rattle.component.specs.Checks.{area_within}
use Rattle.component.proofs.ChecksLaws.{width-least, width_most, samples-fewer, within-sizes, within-depth, within-area}
use Rattle.synthesis_vectors.proofs.coefficient_count.Goals as goal

pub padded_area-requires : goal.padded_area-requires
padded_area-requires c =
    let small : area_within c.args.p 65536 ≡ true = sym c.area_within.ensures ∙ c.if-area_within.true in
    (within-sizes _ _ small, within-depth _ _ small)

pub returns-then-area_within : goal.returns-then-area_within
returns-then-area_within c =
    let small : area_within c.args.p 65536 ≡ true = sym c.area_within.ensures ∙ c.if-area_within.true in
    rw c.padded_area.ensures (within-area _ _ small, width-least _ (within-sizes _ _ small), width_most _ (within-sizes _ _ small), samples-fewer _)
