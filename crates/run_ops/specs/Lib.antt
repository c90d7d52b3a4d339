pub mod States
pub mod Layout
pub mod Statements
