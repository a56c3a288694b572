pub mod PaddedLaws
pub mod RunsLaws
