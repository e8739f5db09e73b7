-- What the walks share.
pub mod ListLaws
pub mod Kept
pub mod AsBytes
pub mod ToldApart
pub mod Sample
