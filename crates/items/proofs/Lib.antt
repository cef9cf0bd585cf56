pub mod Tests
pub mod Words
pub mod Runs
pub mod Numerals
pub mod Spelling
pub mod CutAgain
pub mod Cuts
pub mod Marks
