-- The laws of sizes, subbands, parts and checks, for this crate and those above it; and that the subbands tile the plane.
pub mod SizesLaws
pub mod ChecksLaws
pub mod SubbandsLaws
pub mod Tiling
pub mod PartitionLaws
pub mod ReciprocalLaws
