-- The laws of codeblocks, for this crate and those above it.
pub mod CodeblockTiling
pub mod BlocksLaws
pub mod CodeblocksLaws
pub mod FlagsLaws
pub mod RestLaws
pub mod PortionsLaws
