pub mod Lines
pub mod Answering
