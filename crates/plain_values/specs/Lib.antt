pub mod Checked
pub mod Starts
pub mod Entries
