pub mod Digits
pub mod Signed
pub mod Writing
pub mod Numbers
