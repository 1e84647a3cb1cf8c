pub mod Bytes
pub mod Decimal
pub mod Number
pub mod Scanning
