pub mod Walks
pub mod Quantifiers
pub mod Parts
pub mod Faults
pub mod Keeping
