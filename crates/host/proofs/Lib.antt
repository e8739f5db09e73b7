-- First the tables, computed, and a record in any state. Laws by cases: Pages, Places. Theorems: Listed (the map), Spelling (the weights
-- of four bytes), Afresh (selection and turns), Copied (reads in a row), Collected (writes in a row), Sound.
pub mod Computing
pub mod Sheet
pub mod AnyRecord
pub mod Pages
pub mod Places
pub mod Listed
pub mod Spelling
pub mod Afresh
pub mod Copied
pub mod Collected
pub mod Sound
