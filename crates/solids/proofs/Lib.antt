pub mod Straight
pub mod Blocks
