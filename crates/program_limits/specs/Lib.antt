pub mod Summaries
pub mod Known
pub mod Frames
pub mod Data
pub mod Meeting
pub mod Limits
pub mod Examples
