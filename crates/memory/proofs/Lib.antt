pub mod Tables
pub mod Rows
pub mod Carried
