pub mod Wrapped
pub mod Answered
pub mod Kept
pub mod Exactly
pub mod Joined
