-- `component::checks::padded_area` meets its contract: both padded sizes are at most 4096.
use mathlib.Core.Path.{◌≡◌}
use Prim.Native.Nat.{◌*◌}
use native.Mathlib.Omega.{arith}
use Rattle.component.specs.Checks.{area_of}
use Rattle.component.proofs.ChecksLaws.{area-most, width_most, height_most, depth_most}
use Rattle.component.proofs.checks.padded_area.Goals as goal
use Rattle.component.proofs.checks.padded_area.Goals.{After-padded_size-2}

pub padded_size-requires : goal.padded_size-requires
padded_size-requires c = (depth_most _ c.requires.1, width_most _ c.requires.0)

pub padded_size-requires-2 : goal.padded_size-requires-2
padded_size-requires-2 c = (depth_most _ c.requires.1, height_most _ c.requires.0)

-- the product is the area
area : (c : After-padded_size-2) → c.padded_size.result * c.padded_size-2.result ≡ area_of c.args.p
unfolding area_of
area c = rw (c.padded_size.ensures, c.padded_size-2.ensures)

pub overflow_mul-result : goal.overflow_mul-result
overflow_mul-result c =
    omega (arith, area (goal.at.overflow_mul-result c).After-padded_size-2, area-most c.args.p c.requires.0 c.requires.1)

pub returns : goal.returns
returns c = area (goal.at.returns c).After-padded_size-2
