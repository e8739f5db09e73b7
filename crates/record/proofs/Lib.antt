-- Sheet and Accepted are for the crates above; the others serve the proofs of this crate's functions.
pub mod Computing
pub mod Sheet
mod Numbers
mod Strays
mod Cases
pub mod Accepted
pub mod KindLaws
