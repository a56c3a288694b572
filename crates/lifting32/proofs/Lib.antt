-- The laws that the proofs of this crate cite.
pub mod PairsLaws
pub mod LiftableLaws
