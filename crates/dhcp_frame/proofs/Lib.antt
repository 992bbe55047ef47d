pub mod Sums
pub mod Spelled
pub mod Back
pub mod StandardFacts
