-- The proofs that blocks, lists and all readings are runs, instances that compute, and one outcome each. An instance stands in front.
pub mod Instance
pub mod Ties
pub mod Outcomes
pub mod Program
pub mod Printed
pub mod Flat
