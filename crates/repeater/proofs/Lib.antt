-- First the tables, computed; then laws of the definitions, and theorems that belong to no one function.
pub mod Computing
pub mod Sheet
pub mod Commands
pub mod DoorLaws
pub mod MeetingLaws
pub mod RepeaterLaws
pub mod Kept
pub mod Hearing
pub mod Events
pub mod Sound
