pub mod Alive
pub mod Homes
pub mod Fine
