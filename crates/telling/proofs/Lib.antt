-- Laws that the functions' proofs cite: TellingLaws. Computed lines: Sample. What a line says: Shown.
pub mod TellingLaws
pub mod Sample
pub mod Shown
