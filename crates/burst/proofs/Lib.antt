-- First the tables, computed; then laws of the definitions, and theorems that belong to no one function.
pub mod Scenes
pub mod BurstLaws
pub mod CleanLaws
pub mod MarkLaws
pub mod Counted
