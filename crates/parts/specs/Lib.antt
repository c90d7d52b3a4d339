pub mod Records
pub mod Parts
pub mod Arrays
pub mod Statements
pub mod Tables
