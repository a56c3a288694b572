-- The laws of the contents of a recording, for this crate and those above it, and the contents of the whole case.
pub mod BytesLaws
pub mod CountsLaws
pub mod TableLaws
pub mod WholeCase
