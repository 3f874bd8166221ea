pub mod Cuts
pub mod Given
pub mod Held
pub mod Numerals
pub mod Offering
pub mod Once
pub mod Read
pub mod Same
