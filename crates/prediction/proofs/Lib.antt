-- The laws of prediction, for this crate and those above it.
pub mod PredictionLaws
