-- The host's accesses.
pub mod Access
pub mod Refusals
pub mod Sheet
pub mod Still
