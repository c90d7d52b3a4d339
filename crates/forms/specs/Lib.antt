pub mod Form
pub mod Code
