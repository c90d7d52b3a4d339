pub mod Agreement
pub mod Exactness
pub mod Ends
