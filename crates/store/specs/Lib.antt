pub mod Refusals
pub mod Spans
pub mod Terms
pub mod Tables
pub mod Rules
pub mod Shown
