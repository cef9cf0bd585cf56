pub mod Places
pub mod Parts
pub mod Faults
pub mod Writing
