-- The laws of low delay slices, and the theorems beside the job's contract.
pub mod LengthBits
pub mod SlicesLaws
pub mod JobLaws
pub mod BoundsLaws
pub mod SliceBytes
pub mod Refusals
pub mod BytesUsed
pub mod Trailing
