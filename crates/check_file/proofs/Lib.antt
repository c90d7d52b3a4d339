pub mod Counted
pub mod Judging
pub mod One
