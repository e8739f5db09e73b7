-- The tables of the change bits, computed.
pub mod Sheet
mod Registers
