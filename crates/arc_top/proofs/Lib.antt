mod Pieces
mod Further
mod Meaning
mod InTime
mod StoreFaults
mod Commands
mod Entries
mod Remaining
