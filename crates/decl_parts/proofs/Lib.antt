mod Answering
mod Growing
mod Judging
mod Stating
mod Listing
mod Branching
mod Naming
mod Matching
pub mod ForCallers
