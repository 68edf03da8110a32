pub mod Gcds
pub mod Marks
