pub mod Compared
pub mod Extends
