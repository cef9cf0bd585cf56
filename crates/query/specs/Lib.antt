pub mod Meanings
pub mod Queries
pub mod Rows
pub mod Walks
