pub mod Reachable
pub mod Search
