-- The laws of headers, subbands and the job, for this crate and those above it; and the theorems beside the job's contract.
pub mod HeaderLaws
pub mod SubbandLaws
pub mod JobLaws
pub mod Within
pub mod Trailing
pub mod Frame
