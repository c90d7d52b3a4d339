pub mod Walks
pub mod Stretches
