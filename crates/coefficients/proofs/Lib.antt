-- The laws of reading, for this crate and those above it.
pub mod QuantiserLaws
pub mod FactorsLaws
pub mod ScalingLaws
pub mod ReadingLaws
pub mod ValuesLaws
pub mod BatchesLaws
pub mod PortionsLaws
