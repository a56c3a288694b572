-- The code's own forms
pub mod Pairs
pub mod Bands
pub mod Stages
pub mod Turns
pub mod Rows
pub mod LastStage
pub mod Levels
