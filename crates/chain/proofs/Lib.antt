-- First readings and chains, computed; then the laws of both, what stretches of input come to together, and where the loops stand.
pub mod Sheet
pub mod ChainLaws
pub mod Blocks
pub mod Loops
