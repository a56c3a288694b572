-- The laws of bits and codes, for this crate and those above it; and three theorems: how far a code reaches, that it depends on no bits but
-- its own, and that what follows it does not matter.
pub mod BitsLaws
pub mod CodesLaws
pub mod Extent
pub mod Moved
pub mod BeginsLaws
pub mod Followed
