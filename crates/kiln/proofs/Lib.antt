pub mod Answering
pub mod Telling
pub mod Worked
