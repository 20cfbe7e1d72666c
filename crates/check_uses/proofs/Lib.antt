mod Adding
mod Listing
mod Searching
mod Timing
mod Alike
mod Answering
