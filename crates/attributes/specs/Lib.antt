-- What is kept of the nine ports, what a burst is credited with, and the octet check.
pub mod Nine
pub mod Credits
pub mod Flat
pub mod Counts
pub mod OneClass
pub mod Octets
pub mod OctetAnswer
pub mod Sums
pub mod Sheet
pub mod FlatSheet
