pub mod Cutting
pub mod Offered
