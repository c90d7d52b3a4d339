pub mod Fitting
pub mod Needs
pub mod Effects
