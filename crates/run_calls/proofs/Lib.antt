pub mod Items
pub mod Ready
pub mod Outcome
pub mod Calls
pub mod One
