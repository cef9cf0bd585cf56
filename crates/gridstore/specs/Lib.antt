pub mod Grid
pub mod Grids
pub mod Binary
