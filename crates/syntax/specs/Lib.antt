pub mod Formula
pub mod Nodes
pub mod Rows
