-- The laws of rectangles, for this crate and those above it.
pub mod AreasLaws
pub mod LayoutsLaws
pub mod PortionsLaws
