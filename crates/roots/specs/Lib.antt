pub mod Word
pub mod Root
pub mod Steps
