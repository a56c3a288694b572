pub mod JobLaws
pub mod Trailing
