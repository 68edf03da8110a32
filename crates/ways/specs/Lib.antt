pub mod Permutation
pub mod Divisors
pub mod Stride
pub mod Listing
pub mod Faults
-- proofs of the ways' laws: they stand here since a way's law is a value that its source cites
pub mod Divides
pub mod Coprime
pub mod Pigeon
pub mod Laws
