-- The past alone.
pub mod Doing
pub mod Seen
pub mod Selected
pub mod Judged
pub mod Alone
pub mod Limit
