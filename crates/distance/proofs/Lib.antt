pub mod FourthRoot
pub mod Off
pub mod Distance
