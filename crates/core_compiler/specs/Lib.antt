pub mod Limits
pub mod Compile
pub mod Mean
pub mod Stages
