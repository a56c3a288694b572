-- Document 01
pub mod Codeblocks
-- The code's own forms
pub mod Blocks
pub mod Flags
pub mod Rest
pub mod Portions
