-- What the program and the lent record do is what the demands speak of.
pub mod Ties
pub mod Outcomes
pub mod Program
pub mod Printed
pub mod Flat
