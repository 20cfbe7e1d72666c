mod Cuts
mod Deeds
mod Entries
mod EntryForms
pub mod ForCallers
mod Follows
mod Least
mod Loops
mod Parts
mod Sequences
mod Steps
mod Walks
mod Writing
