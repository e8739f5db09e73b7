-- What follows from the definitions alone.
pub mod Computing
pub mod Sheet
pub mod Crowds
