pub mod ForCallers
mod Equality
mod Forming
mod Settling
mod Slots
mod Powers
mod Numbering
mod EntryLemmas
mod Keeping
mod Completing
mod Sizes
