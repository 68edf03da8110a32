pub mod Six
pub mod Figures
