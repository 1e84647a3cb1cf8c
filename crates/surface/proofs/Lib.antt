pub mod Terms
pub mod Grid
pub mod Cells
pub mod Coded
