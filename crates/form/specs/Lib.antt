pub mod Formed
pub mod Fields
