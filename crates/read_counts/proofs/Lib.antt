pub mod Places
pub mod AsMet
pub mod One
