-- First the tables, computed; then laws of what is kept of the nine ports, for the crates above, and of the credits.
pub mod Computing
pub mod Sheet
pub mod FlatSheet
pub mod OctetCheck
pub mod TotalSheet
pub mod Listed
pub mod Totals
pub mod FlatLaws
pub mod CountLaws
pub mod OneClass
pub mod Sums
pub mod NineLaws
pub mod OctetAnswer
