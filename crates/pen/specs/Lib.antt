pub mod Writing
pub mod Refused
