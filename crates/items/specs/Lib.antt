pub mod Items
pub mod Cursors
pub mod Tokens
pub mod Marks
