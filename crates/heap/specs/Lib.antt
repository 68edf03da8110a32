pub mod Order
pub mod Sifting
pub mod Draining
