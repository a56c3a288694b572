-- The laws of the output and of its parts, that it is its parts, and that a body cut at its place is accepted.
pub mod CutBody
pub mod OutputLaws
pub mod PartsLaws
