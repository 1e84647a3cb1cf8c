pub mod Every
pub mod Readings
pub mod Missing
pub mod Rulings
pub mod Naming
pub mod Walls
pub mod Asked
