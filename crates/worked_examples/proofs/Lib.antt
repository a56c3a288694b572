pub mod WorkedExamples
pub mod WholeCase
pub mod LowDelayExamples
