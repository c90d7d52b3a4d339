pub mod Runs
pub mod Standing
