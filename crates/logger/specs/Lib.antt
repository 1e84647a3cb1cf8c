pub mod Reading
pub mod Mean
pub mod Steps
pub mod Printed
