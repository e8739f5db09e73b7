-- The chip that a start file describes.
pub mod Start
pub mod Flat
pub mod Sheet
