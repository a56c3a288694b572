-- The code's own forms: parameters that passed the checks, subbands that hold zeros, and headers whose data can be counted.
-- No definition of the format rests on them.
use Rattle.std.specs.Prelude.{ℕ, ◌+◌, ◌*◌, ◌≤◌, ◌<◌, ◌^◌, ◌≡◌, true, List, ℤ, pos, get_or}
use Rattle.component.specs.Checks.{sizes_in_range, depth_in_range, codeblocks_in_range}
use Rattle.component.specs.Subbands.{subband_count, InSubband}
use Rattle.component.specs.declared.parameters.Parameters.{Parameters}
use Rattle.codeblocks.specs.declared.CodeblockGrid.{CodeblockGrid}
use Rattle.unpack.specs.Subband.{codeblocks_of}
use Rattle.unpack.specs.Header.{Header, Skipped, Coded, Refused}

-- The parameters of a component that has passed the checks of unpack.
pub record Checked (p : Parameters) : Type 0 where
  pub sizes : sizes_in_range p ≡ true
  pub depth : depth_in_range p ≡ true
  pub codeblocks : codeblocks_in_range p ≡ true

-- The entries where a subband stands hold zeros.
pub record ClearBand (b : CodeblockGrid) (plane : List ℤ) : Type 0 where
  pub each : (row column : ℕ) → InSubband b.subband row column → get_or plane (row * b.stride + column) (pos 0) ≡ pos 0

-- So do those of subband k and of all that follow it.
pub record ClearBandsFrom (p : Parameters) (k : ℕ) (plane : List ℤ) : Type 0 where
  pub each : (j : ℕ) → k ≤ j → j < subband_count p.depth → ClearBand (codeblocks_of p j) plane

-- The bits of a header's data can all be counted.
abbrev pub SoundHeader : Header → Type 0
SoundHeader (Skipped bit) = Unit {0}
SoundHeader (Coded index bit size) = (bit < 2 ^ 62) × (size < 2 ^ 32)
SoundHeader (Refused status bit) = Unit {0}
