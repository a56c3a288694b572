-- Document 01
pub mod Quantiser
pub mod Reading
-- The code's own forms
pub mod Factors
pub mod Scaling
pub mod Values
pub mod Batches
pub mod Portions
