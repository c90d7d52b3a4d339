pub mod Rows
pub mod Bounds
pub mod Steps
pub mod Loops
pub mod Tests
