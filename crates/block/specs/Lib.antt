-- The block of records that is answered at once, and how the loop over it goes.
pub mod Block
pub mod Turns
