pub mod Earlier
pub mod Walking
pub mod Counts
pub mod Rows
pub mod Answered
