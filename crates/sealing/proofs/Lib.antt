pub mod Kept
pub mod Laying
pub mod Turns
