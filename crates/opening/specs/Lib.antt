-- The chip that a program begins with.
pub mod Opening
