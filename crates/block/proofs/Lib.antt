-- A block at two records, computed; and laws of the block, turn by turn.
pub mod Answers
pub mod BlockLaws
