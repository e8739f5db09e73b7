-- Document 01, 'Host registers'.
pub mod Bytes
pub mod Map
pub mod Parts
pub mod Stands
pub mod Sequence
pub mod InARow
pub mod Sound
pub mod Sheet
