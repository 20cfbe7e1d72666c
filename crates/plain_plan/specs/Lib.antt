pub mod Adding
pub mod Hooks
pub mod Views
pub mod Plain
