-- The record: document 01's sections 'Record' and 'Numbers turned away with', as far as they need no state.
pub mod Record
pub mod Numbers
pub mod Refusals
pub mod Reading
pub mod Accepted
pub mod Records
