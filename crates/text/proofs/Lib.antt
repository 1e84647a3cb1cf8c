pub mod Scanning
pub mod Decimal
pub mod Reading
