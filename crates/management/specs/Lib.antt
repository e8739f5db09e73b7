-- The management commands and the status bits, as document 01 has them.
pub mod Commands
pub mod Status
pub mod Reported
