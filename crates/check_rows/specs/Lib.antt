pub mod View
pub mod Counters
pub mod Changes
