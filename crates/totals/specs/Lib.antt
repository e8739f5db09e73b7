-- What the program does with its input, and what it says of it.
pub mod Taken
