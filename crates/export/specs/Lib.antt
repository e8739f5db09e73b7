-- What the program does with one reading.
pub mod Taken
