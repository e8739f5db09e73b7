-- What all records of a stretch of input leave, and that stretch after stretch they leave the same.
pub mod Tally
pub mod Blocks
