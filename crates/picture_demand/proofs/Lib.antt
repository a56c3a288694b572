pub mod EachComponent
