pub mod Memory
pub mod Stages
pub mod Left
pub mod Work
pub mod Calls
