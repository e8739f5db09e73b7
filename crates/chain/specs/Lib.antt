-- Readings of one counter as bytes, what they come to, and that stretch after stretch they come to the same.
pub mod Chain
pub mod Blocks
