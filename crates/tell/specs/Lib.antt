-- What the program does with one record.
pub mod Taken
