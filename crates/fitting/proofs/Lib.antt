pub mod Trying
pub mod Placed
