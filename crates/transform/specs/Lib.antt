-- Document 01
pub mod Synthesis
pub mod Analysis
pub mod Job
-- The code's own forms
pub mod Geometry
