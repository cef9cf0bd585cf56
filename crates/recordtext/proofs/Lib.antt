pub mod StateLines
pub mod Spelling
