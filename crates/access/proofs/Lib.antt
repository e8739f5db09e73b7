-- Laws of the accesses.
pub mod Computing
pub mod Sheet
pub mod AnyRecord
pub mod AccessLaws
pub mod Cases
pub mod Refused
pub mod Still
pub mod Values
