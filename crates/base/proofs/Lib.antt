-- The laws that the proofs of this crate and of those above it cite. `XLaws` has those of specs/X.antt; the others are of numbers, Booleans
-- and rows in general.
pub mod Booleans
pub mod Integers
pub mod Reciprocals
pub mod RangeLaws
pub mod RefusalsLaws
pub mod FloorLaws
pub mod WalkLaws
pub mod FillLaws
pub mod ListsLaws
pub mod EveryLaws
pub mod Grids
pub mod Parity
