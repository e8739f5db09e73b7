-- The chip as a whole: a burst, a record, runs, and the boundary sheet.
pub mod Bursts
pub mod Step
pub mod Flat
pub mod Refusals
pub mod Runs
pub mod Sheet
pub mod Told
