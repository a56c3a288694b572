-- The laws of lifting steps, of filters, passes and planes, for this crate and those above it.
pub mod LiftingLaws
pub mod PassesLaws
pub mod PlanesLaws
pub mod TableLaws
pub mod PicturesLaws
pub mod BoundsLaws
