pub mod RootLaws
pub mod Pairs
pub mod Sides
pub mod Examples
