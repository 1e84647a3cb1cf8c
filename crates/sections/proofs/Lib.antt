pub mod Same
pub mod Mapped
pub mod Sections
