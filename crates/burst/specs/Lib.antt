-- A burst's rules: what is heard of it, what follows for the wire, and what it is for each port.
pub mod Burst
pub mod Clean
pub mod Marks
pub mod Scenes
