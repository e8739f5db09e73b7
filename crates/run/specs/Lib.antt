-- What the run program keeps from one reading to the next.
pub mod Kept
