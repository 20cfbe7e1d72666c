pub mod Apart
pub mod Writing
