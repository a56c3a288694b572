-- Document 01
pub mod Prediction
