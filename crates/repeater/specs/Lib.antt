-- The repeater's rules, from those of a port and of a burst.
pub mod Door
pub mod Reset
pub mod Hearing
pub mod Those
pub mod Answers
pub mod Repeater
pub mod Events
pub mod Sound
pub mod Sheet
pub mod Commands
