-- The line that tells a record: its answer, and what it left.
pub mod Telling
