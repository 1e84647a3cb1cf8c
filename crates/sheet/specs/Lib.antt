pub mod Quantities
pub mod Firing
pub mod Refusals
pub mod Shown
pub mod Blank
pub mod Block
