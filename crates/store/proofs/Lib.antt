pub mod Decided
pub mod Laying
pub mod Marks
pub mod Named
