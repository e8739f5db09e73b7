-- The tables, computed.
pub mod Listed
