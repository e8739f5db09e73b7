-- First what is said of some inputs, computed; then that the input decides it.
pub mod Sheet
pub mod Decides
