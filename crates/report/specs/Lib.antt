pub mod Lines
pub mod Excerpts
pub mod Sizes
pub mod Reports
pub mod Checks
