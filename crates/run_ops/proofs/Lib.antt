pub mod States
pub mod Index
pub mod Cells
