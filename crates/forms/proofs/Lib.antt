pub mod Open
pub mod Values
pub mod Same
pub mod Below
pub mod Shared
pub mod One
