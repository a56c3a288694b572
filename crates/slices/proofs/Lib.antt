-- The laws of rectangles, stores and reading, for this crate and those above it; and the theorems beside them.
pub mod AreasLaws
pub mod BoundsLaws
pub mod StoresLaws
pub mod ReadsLaws
pub mod PartsLaws
pub mod SliceTiling
pub mod SliceFrame
