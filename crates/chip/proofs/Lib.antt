-- First the tables, computed; then laws of the chip's state.
pub mod Sheet
pub mod ChipLaws
pub mod FlatLaws
