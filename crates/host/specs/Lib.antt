pub mod Meaning
pub mod Reading
pub mod Within
pub mod Tabled
pub mod Kept
