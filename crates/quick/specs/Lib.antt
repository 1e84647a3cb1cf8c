pub mod Number
pub mod Key
pub mod Row
