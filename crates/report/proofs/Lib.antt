pub mod Lines
pub mod Excerpts
pub mod Sizes
pub mod RuleReports
pub mod Known
