pub mod Tests
pub mod Tables
pub mod Statements
pub mod Arrays
pub mod Rules
