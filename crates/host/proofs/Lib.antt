pub mod Roots
pub mod Making
