pub mod Rows
pub mod Stating
pub mod Changes
