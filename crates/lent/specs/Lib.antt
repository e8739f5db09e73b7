-- The host's record, lent.
pub mod Lent
pub mod Lists
