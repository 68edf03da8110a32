pub mod Generator
pub mod Faults
pub mod Filling
pub mod Triples
pub mod Laws
