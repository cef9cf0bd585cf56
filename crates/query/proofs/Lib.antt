pub mod Keys
pub mod Bits
pub mod Meanings
