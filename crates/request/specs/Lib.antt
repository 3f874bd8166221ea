pub mod Bindings
pub mod Asked
pub mod Places
pub mod Grounds
pub mod Laws
pub mod Pairs
