pub mod Drawing
pub mod Summing
