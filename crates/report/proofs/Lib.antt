pub mod Printing
pub mod Room
pub mod Keys
pub mod Lines
pub mod Filling
pub mod Going
