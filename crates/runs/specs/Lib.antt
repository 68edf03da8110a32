pub mod Answers
pub mod Faults
pub mod Lists
pub mod Order
pub mod Fitting
pub mod Plates
pub mod Runs
pub mod Laws
