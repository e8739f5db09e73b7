-- Document 01, the end of 'Boundary sheet': what the run program prints for each record.
pub mod Answer
pub mod Text
pub mod Numerals
pub mod Line
pub mod Put
pub mod Grown
