-- The laws of synthesis and analysis, and the theorems about them.
pub mod SynthesisLaws
pub mod AnalysisLaws
pub mod GeometryLaws
pub mod JobLaws
pub mod Demand3
pub mod WholeCase
