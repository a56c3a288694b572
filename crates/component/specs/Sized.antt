-- The code's own form: parameters whose padded sizes the code can compute. No definition of the format rests on it.
use Rattle.std.specs.Prelude.{◌≡◌, true}
use Rattle.component.specs.Checks.{sizes_in_range, depth_in_range}
use Rattle.component.specs.declared.parameters.Parameters.{Parameters}

-- Sizes and depth are in range.
abbrev pub Sized : Parameters → Type 0
Sized p = (sizes_in_range p ≡ true) × (depth_in_range p ≡ true)
