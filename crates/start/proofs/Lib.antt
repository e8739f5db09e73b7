-- One start file, computed.
pub mod Sheet
-- A law that a proof cites.
pub mod Lists
