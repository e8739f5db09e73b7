-- The change bits and their enables.
pub mod Changes
pub mod Sheet
