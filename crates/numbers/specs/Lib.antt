pub mod Result
pub mod Lists
pub mod Words
pub mod Areas
pub mod Bounds
