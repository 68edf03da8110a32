pub mod Latest
pub mod Walked
pub mod Built
pub mod Mapped
pub mod Clashing
