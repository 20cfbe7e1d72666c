pub mod Streams
pub mod Runs
pub mod Calls
pub mod Told
