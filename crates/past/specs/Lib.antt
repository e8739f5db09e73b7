-- What the records that came before decide, with nothing of the chip in it: a file for each thing that a host can see.
pub mod Deeds
pub mod Since
pub mod Settings
pub mod Link
pub mod Bursts
pub mod Partition
pub mod Credits
pub mod Addresses
pub mod Status
pub mod Changes
pub mod Reads
pub mod Answers
pub mod Sheet
