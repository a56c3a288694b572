-- Document 01
pub mod Range
pub mod Floor
pub mod Sign
pub mod Every
pub mod Lists
pub mod Walk
pub mod Refusals
-- The code's own forms
pub mod Fill
