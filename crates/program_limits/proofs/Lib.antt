mod Firsts
mod Limiting
mod Summing
mod Rounds
mod Listing
mod FormRows
mod Capping
mod Meets
mod Distinct
mod Globals
mod TypeNames
mod NoEntries
pub mod ForCallers
mod Levels
