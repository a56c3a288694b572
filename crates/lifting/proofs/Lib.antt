-- The laws of pictures in planes and of rows in the line buffer, for this crate and those above it.
pub mod LayoutLaws
pub mod LinesLaws
pub mod LineBoundsLaws
