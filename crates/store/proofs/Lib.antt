-- Laws of masks, of the door, and of visits.
pub mod Sheet
pub mod Masks
pub mod DoorLaws
pub mod Visiting
pub mod VisitLaws
