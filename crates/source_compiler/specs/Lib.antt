pub mod Source
pub mod Limits
pub mod Compile
