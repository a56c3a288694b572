-- Document 01, "Refusal numbers": the number of each refusal. 12 to 14 are document 02's.
use Rattle.std.specs.Prelude.{ℕ, Result, Ok, Err}
use Rattle.base.specs.declared.status.Refusal.{Refusal}
use Rattle.base.specs.declared.status.Refusal.TheVariants.{Size, Depth, Wavelet, Codeblocks, Planes, BytesEndEarly, CodeTooLong, Quantiser, ValueOutOfRange, SynthesisOutOfRange, BytesLeftOver, Slices, LumaLength}

-- "width or height outside range", "depth outside range", "wavelet index outside range", "a block count that matters is outside range", "a lent
-- plane hasn't exactly the length it needs", "bytes end early", "a number code is too long", "quantiser index above 115", "an unpacked or
-- predicted value is outside signed 32 bits", "a number assigned in synthesis is outside signed 32 bits"; and of document 02, bytes left over,
-- "the counts, the fraction or the matrix" of slices, and a luma length that exceeds the bits left
abbrev pub number_of : Refusal → ℕ
number_of Size = 1
number_of Depth = 2
number_of Wavelet = 3
number_of Codeblocks = 4
number_of Planes = 5
number_of BytesEndEarly = 6
number_of CodeTooLong = 7
number_of Quantiser = 8
number_of ValueOutOfRange = 9
number_of SynthesisOutOfRange = 10
number_of BytesLeftOver = 12
number_of Slices = 13
number_of LumaLength = 14

-- A status: 0, or the number of a refusal.
abbrev pub status_of : {A : Type 0} → Result A Refusal → ℕ
status_of (Ok x) = 0
status_of (Err refusal) = number_of refusal
