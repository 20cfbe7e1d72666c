mod Entries
mod Kept
mod OneMore
mod Orders
mod Search
