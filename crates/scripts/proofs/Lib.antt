pub mod Performing
pub mod Cutting
pub mod Stepping
