pub mod Opens
pub mod Statements
