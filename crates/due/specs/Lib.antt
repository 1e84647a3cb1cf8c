pub mod Place
pub mod Taking
pub mod Form
pub mod Block
pub mod Said
