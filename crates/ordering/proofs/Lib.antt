pub mod Starts
pub mod Queues
pub mod Choosing
pub mod Gathering
pub mod Arranging
