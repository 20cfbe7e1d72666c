pub mod Command
pub mod Walk
