pub mod Units
pub mod Sizes
pub mod Capacity
pub mod Sums
pub mod Balance01
