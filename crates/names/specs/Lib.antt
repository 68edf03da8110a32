pub mod Spellings
pub mod Faults
pub mod Points
pub mod Cells
pub mod Judged
