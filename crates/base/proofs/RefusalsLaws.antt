-- Laws of the numbers of refusals.
-- Assumes nothing.
use mathlib.Core.Logic.{◌≢◌}
use native.Mathlib.Omega.{arith}
use Rattle.base.specs.Refusals.{number_of}
use Rattle.base.specs.declared.status.Refusal.{Refusal}
use Rattle.base.specs.declared.status.Refusal.TheVariants.{Size, Depth, Wavelet, Codeblocks, Planes, BytesEndEarly, CodeTooLong, Quantiser, ValueOutOfRange, SynthesisOutOfRange, BytesLeftOver, Slices, LumaLength}

-- No refusal has the number 0.
pub refusal-some : (r : Refusal) → number_of r ≢ 0
refusal-some Size e = omega (arith, e)
refusal-some Depth e = omega (arith, e)
refusal-some Wavelet e = omega (arith, e)
refusal-some Codeblocks e = omega (arith, e)
refusal-some Planes e = omega (arith, e)
refusal-some BytesEndEarly e = omega (arith, e)
refusal-some CodeTooLong e = omega (arith, e)
refusal-some Quantiser e = omega (arith, e)
refusal-some ValueOutOfRange e = omega (arith, e)
refusal-some SynthesisOutOfRange e = omega (arith, e)
refusal-some BytesLeftOver e = omega (arith, e)
refusal-some Slices e = omega (arith, e)
refusal-some LumaLength e = omega (arith, e)
