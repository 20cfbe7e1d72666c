pub mod Lists
pub mod Terms
pub mod Types
pub mod Statements
