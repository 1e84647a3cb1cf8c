pub mod Refusals
pub mod Sums
pub mod Readings
