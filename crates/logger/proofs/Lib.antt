pub mod Pieces
pub mod Scaling
pub mod Judging
pub mod Averaging
pub mod Binary32
pub mod Facts
pub mod Laws
