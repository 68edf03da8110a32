pub mod Written
pub mod Spelled
pub mod Cuts
pub mod Composed
pub mod Standing
