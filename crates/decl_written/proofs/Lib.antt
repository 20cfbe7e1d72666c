mod Valued
mod NameSets
mod AtOnce
pub mod ForCallers
