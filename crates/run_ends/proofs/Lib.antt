pub mod After
pub mod Closing
pub mod Scan
