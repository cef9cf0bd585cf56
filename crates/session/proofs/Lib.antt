pub mod Replays
pub mod Meanings
pub mod Counts
pub mod Books
pub mod Laws
