pub mod Programs
pub mod Rows
pub mod Parts
pub mod One
