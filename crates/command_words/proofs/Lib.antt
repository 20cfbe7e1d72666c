mod Spelling
mod Reading
mod Commands
mod Choosing
mod Ranges
