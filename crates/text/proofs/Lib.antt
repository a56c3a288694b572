-- The laws that the proofs of this crate, and of those above it, cite.
pub mod PutLaws
pub mod TextLaws
