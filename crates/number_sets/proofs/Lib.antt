mod Stamping
mod Positions
pub mod ForCallers
