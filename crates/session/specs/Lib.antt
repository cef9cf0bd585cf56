pub mod Faults
pub mod Refusals
pub mod View
pub mod Steps
pub mod Book
pub mod Law
