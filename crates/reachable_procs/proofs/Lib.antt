mod Indexing
mod Searching
mod Following
mod Shapes
mod Ranks
mod Whole
