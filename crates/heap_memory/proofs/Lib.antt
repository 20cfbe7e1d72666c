mod Ranges
mod BlockLists
mod Counts
mod Kept
mod BlockBytes
mod HeapUses
mod Walks
mod Sizes
mod ClassLaws
mod Fills
mod HandleWords
mod CharacterPut
pub mod ForCallers
