pub mod Kinds
pub mod Mixture
pub mod Steps
