-- First a tally, computed; then laws of a tally, what blocks of input come to together, and that there is one outcome.
pub mod Sheet
pub mod TallyLaws
pub mod Blocks
pub mod Outcome
