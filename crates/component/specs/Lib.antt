-- Document 01
pub mod Sizes
pub mod Subbands
pub mod Partition
pub mod Answers
pub mod Checks
-- The code's own forms
pub mod Sized
pub mod Reciprocal
