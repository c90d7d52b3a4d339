pub mod Texts
pub mod Digits
pub mod One
pub mod Reading
