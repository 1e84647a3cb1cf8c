pub mod Totals
pub mod Answering
