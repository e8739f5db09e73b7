-- Laws on answers and their lines. Laws that the functions' proofs cite: Pieces, Grows, Digits, Lengths, Room. Theorems: Numerals (what a
-- numeral stands for), Lengths (how long a line is), Newlines (one for each answer), Lines (lines in a buffer, one behind the other),
-- Sample (instances of all these, computed).
pub mod Pieces
pub mod Grows
pub mod Digits
pub mod Lengths
pub mod Room
pub mod Sample
pub mod Numerals
pub mod Newlines
pub mod Shown
pub mod Lines
