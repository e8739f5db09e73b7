-- What a pass means.
pub mod Judged
pub mod Pass
pub mod Examples
pub mod HostPast
pub mod Totals
pub mod Limit
