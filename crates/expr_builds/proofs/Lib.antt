mod Forming
mod Labelling
mod Planning
mod Ranging
mod Tupling
mod Twice
pub mod ForCallers
