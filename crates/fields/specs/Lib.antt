pub mod Writing
pub mod Parts
pub mod Faults
