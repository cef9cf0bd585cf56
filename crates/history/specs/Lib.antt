pub mod Histories
pub mod Worked
