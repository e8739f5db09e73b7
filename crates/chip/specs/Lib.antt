-- The chip's state.
pub mod Chip
pub mod Flat
pub mod Sheet
