-- First the tables, computed; then laws of the definitions, and theorems that belong to no one function.
pub mod Computing
pub mod Sheet
pub mod Told
pub mod HimibLaws
pub mod FlatSheet
pub mod FlatLaws
pub mod StepLaws
pub mod Runs
pub mod Refused
