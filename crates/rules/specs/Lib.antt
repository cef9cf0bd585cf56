pub mod Fitting
pub mod Reads
pub mod Tables
pub mod Refusals
pub mod Reaches
