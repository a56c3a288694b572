pub mod WindowsLaws
pub mod LookupsLaws
