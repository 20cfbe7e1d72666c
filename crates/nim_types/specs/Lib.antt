pub mod Types
pub mod Forms
pub mod Table
pub mod Entries
pub mod Kept
pub mod Blocks
pub mod Examples
