-- The laws of a sweep, for this crate and those above it.
pub mod PairsLaws
pub mod StagesLaws
pub mod TurnsLaws
pub mod BandsLaws
pub mod RowsLaws
pub mod LastStageLaws
pub mod LevelsLaws
